-- Looking a worker up: by what is kept of it, and in what is told.
use Rattle.std.proofs.Common.{◌≡◌, ℕ, Bool, true, false, List, [], ◌∷◌, cond, map, Option, Some, None, refl}
use Rattle.std.specs.Option.{IsSomeAnd}
use Rattle.ids.specs.Keyed.{has_key}
use Rattle.ids.specs.Members.{is_live, says_live, status_in}
use Rattle.ids.specs.Named.{name_cmp, item_in}
use Rattle.ids.specs.Naming.{name_of_member}
use Rattle.ids.specs.Options.{◌>>=◌}
use Rattle.ids.specs.declared.member.Member.{Member}
use Rattle.ids.specs.declared.member.Status.{Status}
use Rattle.clearinghouse.specs.House.{member_of, name_of_enlisted}
use Rattle.clearinghouse.specs.declared.parts.Enlisted.{Enlisted}

-- what is said of the worker that was found
abbrev said : Option Enlisted → Option Status
said None = None
said (Some w) = Some w.status

abbrev told : Option Member → Option Status
told o = o >>= λ m. Some m.status

pub status_found : (i : ℕ) (ws : List Enlisted)
    → status_in i (map member_of ws) ≡ said (item_in name_of_enlisted (i, 0) ws)
status_found i [] = refl
status_found i (w ∷ ws) = by_test (status_found i ws) (has_key name_of_enlisted name_cmp (i, 0) w)
  where
    by_test : status_in i (map member_of ws) ≡ said (item_in name_of_enlisted (i, 0) ws) → (b : Bool)
        → told (cond b (Some (member_of w)) (item_in name_of_member (i, 0) (map member_of ws)))
        ≡ said (cond b (Some w) (item_in name_of_enlisted (i, 0) ws))
    by_test rest true = refl
    by_test rest false = rest

there : (o : Option Enlisted) → says_live (said o) ≡ true → IsSomeAnd o (λ w. Unit {0})
there None live = cc
there (Some w) live = tt

pub live_there : (i : ℕ) (ws : List Enlisted) → is_live i (map member_of ws) ≡ true
    → IsSomeAnd (item_in name_of_enlisted (i, 0) ws) (λ w. Unit {0})
live_there i ws live = there (item_in name_of_enlisted (i, 0) ws) (rw (status_found i ws) at live)
