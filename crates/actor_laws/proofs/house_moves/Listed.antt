-- What is said of workers that are kept, before and after each of them is changed.
use Rattle.std.proofs.Common.{◌≡◌, ℕ, Bool, true, false, cond, List, [], ◌∷◌, map, Option, None, Some, refl, ap, ◌∙◌}
use Rattle.std.specs.Ordering.{is_eq}
use Rattle.std.specs.Option.{option_map}
use Rattle.ids.specs.Keyed.{has_key}
use Rattle.ids.specs.Named.{item_in, name_cmp}
use Rattle.ids.specs.Members.{status_in}
use Rattle.ids.specs.declared.member.Status.{Status}
use Rattle.clearinghouse.specs.House.{member_of, name_of_enlisted}
use Rattle.clearinghouse.specs.declared.parts.Enlisted.{Enlisted}
use Rattle.clearinghouse.proofs.Looking.{status_found}

-- what is said of a worker that is kept
abbrev pub status_kept : Option Enlisted → Option Status
status_kept None = None
status_kept (Some w) = Some w.status

pub kept_found : (i : ℕ) (ws : List Enlisted)
    → status_in i (map member_of ws) ≡ status_kept (item_in name_of_enlisted (i, 0) ws)
kept_found i ws = status_found i ws

-- each is changed, and keeps its name
module _ (f : Enlisted → Enlisted) (names : (w : Enlisted) → name_of_enlisted (f w) ≡ name_of_enlisted w) where
  mapped_item : (i : ℕ) (ws : List Enlisted)
      → item_in name_of_enlisted (i, 0) (map f ws) ≡ option_map f (item_in name_of_enlisted (i, 0) ws)
  mapped_item i [] = refl
  mapped_item i (w ∷ ws) = ap (λ n. cond (is_eq (name_cmp (i, 0) n)) (Some (f w))
      (item_in name_of_enlisted (i, 0) (map f ws))) (names w)
      ∙ by_test (mapped_item i ws) (has_key name_of_enlisted name_cmp (i, 0) w)
    where
      by_test : item_in name_of_enlisted (i, 0) (map f ws) ≡ option_map f (item_in name_of_enlisted (i, 0) ws)
          → (b : Bool) → cond b (Some (f w)) (item_in name_of_enlisted (i, 0) (map f ws))
          ≡ option_map f (cond b (Some w) (item_in name_of_enlisted (i, 0) ws))
      by_test rest true = refl
      by_test rest false = rest

  pub mapped_status : (i : ℕ) (ws : List Enlisted)
      → status_in i (map member_of (map f ws)) ≡ status_kept (option_map f (item_in name_of_enlisted (i, 0) ws))
  mapped_status i ws = kept_found i (map f ws) ∙ ap status_kept (mapped_item i ws)
