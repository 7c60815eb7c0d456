-- How many live, where some of those that lived don't any more.
use Rattle.std.proofs.Common.{◌≡◌, ◌+◌, ◌≤◌, ◌-◌, ℕ, Bool, true, false, cond, nat_lt, ◌&&◌, List, [], ◌∷◌, map, Some, refl, ap, arith}
use Rattle.ids.specs.Keyed.{has_key}
use Rattle.ids.specs.Naming.{name_of_member}
use Rattle.ids.specs.Named.{item_in, name_cmp}
use Rattle.ids.specs.Options.{◌>>=◌}
use Rattle.ids.specs.Members.{says_live, status_in}
use Rattle.ids.specs.declared.member.Status.{Status}
use Rattle.ids.specs.declared.member.Status.TheVariants as member
use Rattle.clearinghouse.specs.House.{member_of, name_of_enlisted}
use Rattle.clearinghouse.specs.Laws.{living, one_if}
use Rattle.clearinghouse.specs.Moves.{declared_dead, is_lost}
use Rattle.clearinghouse.specs.declared.parts.Enlisted.{Enlisted}

abbrev pub lives : Enlisted → Bool
lives w = says_live (Some w.status)

-- nobody comes to life
pub no_more_live : (f : Enlisted → Enlisted) → ((w : Enlisted) → one_if (lives (f w)) ≤ one_if (lives w))
    → (ws : List Enlisted) → living (map f ws) ≤ living ws
no_more_live f less [] = omega arith
no_more_live f less (w ∷ ws) = let rest : living (map f ws) ≤ living ws =
    no_more_live f less ws in omega (arith, less w, rest)

module _ (limit now : ℕ) where
  pub declare_dead_less : (w : Enlisted) → one_if (lives (declared_dead limit now w)) ≤ one_if (lives w)
  declare_dead_less w = by_test (is_lost limit now w)
    where
      by_test : (b : Bool) → one_if (says_live (Some (cond b member.Dead w.status))) ≤ one_if (lives w)
      by_test true = omega arith
      by_test false = omega arith

  pub lost_lives : (w : Enlisted) → is_lost limit now w ≡ true → lives w ≡ true
  lost_lives w lost = by_test (lives w) lost
    where
      by_test : (b : Bool) → (b && nat_lt limit (now - w.heard)) ≡ true → b ≡ true
      by_test true at = refl
      by_test false at = cc

-- a worker of this name is said to have that status, in which it doesn't live
module _ (i : ℕ) (s : Status) (gone : says_live (Some s) ≡ false) where
  abbrev say_at : Enlisted → Enlisted
  say_at w = cond (has_key name_of_enlisted name_cmp (i, 0) w) (record w { status = s }) w

  say_less : (w : Enlisted) → one_if (lives (say_at w)) ≤ one_if (lives w)
  say_less w = by_test (has_key name_of_enlisted name_cmp (i, 0) w)
    where
      none : one_if (says_live (Some s)) ≡ 0
      none = ap one_if gone

      by_test : (b : Bool) → one_if (lives (cond b (record w { status = s }) w)) ≤ one_if (lives w)
      by_test true = omega (arith, none)
      by_test false = omega arith

  pub one_fewer : (ws : List Enlisted) → says_live (status_in i (map member_of ws)) ≡ true
      → living (map say_at ws) + 1 ≤ living ws
  one_fewer [] live = cc
  one_fewer (w ∷ ws) live = by_test (one_fewer ws) (no_more_live say_at say_less ws)
      (has_key name_of_enlisted name_cmp (i, 0) w) live
    where
      by_test : (says_live (status_in i (map member_of ws)) ≡ true → living (map say_at ws) + 1 ≤ living ws)
          → living (map say_at ws) ≤ living ws → (b : Bool)
          → says_live (cond b (Some (member_of w)) (item_in name_of_member (i, 0) (map member_of ws)) >>=
          (λ m. Some m.status)) ≡ true → one_if (lives (cond b (record w { status = s }) w)) + living
          (map say_at ws) + 1 ≤ one_if (lives w) + living ws
      by_test rest less true at =
          let none : one_if (says_live (Some s)) ≡ 0 = ap one_if gone in
          let one : one_if (lives w) ≡ 1 = ap one_if at in
          omega (arith, none, one, less)
      by_test rest less false at = let behind : living (map say_at ws) + 1 ≤ living ws =
          rest at in omega (arith, behind)
