-- The node at each place after one place changed.
use Rattle.std.proofs.Common.{◌≡◌, ℕ, List, ◌⊎◌, inl, inr, ⊎_elim, Option, None, Some, sym, ap, ◌∙◌}
use Rattle.std.specs.Cmp.{nat_cmp_total}
use Rattle.std.specs.Ordering.{nat_cmp}
use Rattle.ids.specs.Options.{◌>>=◌}
use Rattle.ids.proofs.KeyedLaws.{put_found}
use Rattle.node_state.specs.Node.{NodeOf}
use Rattle.table_laws.proofs.Lists.{none_some, same_or, some_same}
use Rattle.world_steps.specs.World.{Up, node_in, place_of, put_node, without_node}
use Rattle.run_laws.proofs.Keyed.{others, gone, none}

pub put_here : (a : ℕ) (n : NodeOf) (nodes : List Up) → node_in a (put_node a n nodes) ≡ Some n
put_here a n nodes = ap (λ (o : Option Up). o >>= (λ u. Some u.node))
    (put_found place_of nat_cmp nat_cmp_total (record { at = a; node = n }) nodes)

pub put_beside : (a b : ℕ) (n : NodeOf) (nodes : List Up) → (b ≡ a → ⊥)
    → node_in b (put_node a n nodes) ≡ node_in b nodes
put_beside a b n nodes other = ap (λ (o : Option Up). o >>= (λ u. Some u.node))
    (others place_of b (record { at = a; node = n }) nodes other)

gone_here : (a : ℕ) (nodes : List Up) → node_in a (without_node a nodes) ≡ None
gone_here a nodes = ap (λ (o : Option Up). o >>= (λ u. Some u.node)) (none place_of a nodes)

pub gone_beside : (a b : ℕ) (nodes : List Up) → (b ≡ a → ⊥) → node_in b (without_node a nodes) ≡ node_in b nodes
gone_beside a b nodes other = ap (λ (o : Option Up). o >>= (λ u. Some u.node)) (gone place_of b a nodes other)

-- the node of a place is the new one, or stood there
pub new_or_old : (a b : ℕ) (n o : NodeOf) (nodes : List Up) → node_in b (put_node a n nodes) ≡ Some o
    → ((b ≡ a) × (o ≡ n)) ⊎ ((b ≡ a → ⊥) × (node_in b nodes ≡ Some o))
new_or_old a b n o nodes there = ⊎_elim
    (λ (same : b ≡ a). let here : node_in a (put_node a n nodes) ≡ Some o = rw same at there in let new =
    put_here a n nodes in inl (same, some_same (sym here ∙ new)))
    (λ (other : b ≡ a → ⊥). inr (other, sym (put_beside a b n nodes other) ∙ there))
    (same_or b a)

-- what is left stood there, at another place
pub left_there : (a b : ℕ) (o : NodeOf) (nodes : List Up) → node_in b (without_node a nodes) ≡ Some o
    → (b ≡ a → ⊥) × (node_in b nodes ≡ Some o)
left_there a b o nodes there = ⊎_elim
    (λ (same : b ≡ a). absurd (none_some (gone_here a nodes) (rw same at there)))
    (λ (other : b ≡ a → ⊥). (other, sym (gone_beside a b nodes other) ∙ there))
    (same_or b a)
