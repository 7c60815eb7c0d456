-- Where chains of heirs come to, by the tables of their steps.
use Rattle.std.proofs.Common.{◌≡◌, ℕ, zero, suc, ◌+◌, ◌-◌, ◌≤◌, Bool, true, false, ◌||◌, List, [], ◌∷◌, cond, map, Option, Some, None, refl, sym, ap, ◌∙◌, arith}
use Rattle.std.specs.List.{list_any}
use Rattle.std.specs.Option.{option_map}
use Rattle.std.specs.Ordering.{is_eq}
use Rattle.ids.specs.Named.{Name, name_cmp, item_in}
use Rattle.ids.specs.Naming.{name_of_member}
use Rattle.ids.specs.Ordered.{AreInOrder}
use Rattle.ids.specs.Options.{◌>>=◌}
use Rattle.ids.specs.Members.{status_in, follow, bearer}
use Rattle.ids.specs.declared.member.Member.{Member}
use Rattle.ids.specs.declared.member.Status.{Status}
use Rattle.ids.specs.declared.member.Status.TheVariants.{Live, Dead, Left}
use Rattle.ids.proofs.KeyedLaws.{found_in}
use Rattle.ids.proofs.NameOrder.{exact_names}
use Rattle.heirs.specs.declared.bearers.chains.Chain.{Chain}
use Rattle.heirs.specs.declared.bearers.chains.Reach.{Reach}
use Rattle.heirs.specs.declared.bearers.chains.Reach.TheVariants.{Ended, At}
use Rattle.heirs.specs.Bearers.{name_of_bearing, bearer_in, said_of}
use Rattle.heirs.specs.Chains.{name_of_chain, first_of, begun, chain_of, then_on, reach_of, reach_in, reach, gone_on, goes_on, end_of, bearing_of}
use Rattle.heirs.proofs.Tables.{item_of_map, names_of_map, IsMadeFrom}

-- going on by two tables that say the same
then_same : (f g : ℕ → Reach) → ((j : ℕ) → f j ≡ g j) → (r : Reach) → then_on f r ≡ then_on g r
then_same f g same (Ended o) = refl
then_same f g same (At j) = same j

-- so many steps and then more are as many as both
more_steps : (step : List Chain) (m k steps : ℕ) → steps ≡ m + k → (i : ℕ)
    → reach steps step i ≡ then_on (reach k step) (reach m step i)
unfolding reach
more_steps step zero k steps sum i = let same : steps ≡ k = omega arith in rw same refl
more_steps step (suc m) k steps sum i =
    let same : steps ≡ suc (m + k) = omega arith in
    rw same (by_first (λ j. more_steps step m k (m + k) refl j) (reach_in step i))
  where
    by_first : ((j : ℕ) → reach (m + k) step j ≡ then_on (reach k step) (reach m step j)) → (r : Reach)
        → then_on (reach (m + k) step) r ≡ then_on (reach k step) (then_on (reach m step) r)
    by_first rest (Ended o) = refl
    by_first rest (At j) = rest j

-- the table of one step says where chains are after one
pub one_step : (step : List Chain) (steps : ℕ) → steps ≡ 1 → (i : ℕ) → reach_in step i ≡ reach steps step i
unfolding reach
one_step step steps one i = rw one (by_first (reach_in step i))
  where
    by_first : (r : Reach) → r ≡ then_on At r
    by_first (Ended o) = refl
    by_first (At j) = refl

-- what a table says that went on as another says
joined_in : (table next : List Chain) (i : ℕ)
    → reach_in (map (gone_on next) table) i ≡ then_on (reach_in next) (reach_in table i)
joined_in table next i = ap (reach_of i)
    (item_of_map name_of_chain name_of_chain (gone_on next) (λ c. refl) (i, 0) table)
    ∙ by_found (item_in name_of_chain (i, 0) table)
  where
    by_found : (o : Option Chain) → reach_of i (option_map (gone_on next) o) ≡ then_on (reach_in next) (reach_of i o)
    by_found None = refl
    by_found (Some c) = refl

-- so it says where chains are after the steps of both
pub joined_steps : (step table next : List Chain) (m k steps : ℕ) → steps ≡ m + k
    → ((i : ℕ) → reach_in table i ≡ reach m step i) → ((i : ℕ) → reach_in next i ≡ reach k step i)
    → (longer : List Chain) → longer ≡ map (gone_on next) table → (i : ℕ) → reach_in longer i ≡ reach steps step i
joined_steps step table next m k steps sum first rest longer is i =
    ap (λ t. reach_in t i) is
    ∙ joined_in table next i
    ∙ ap (then_on (reach_in next)) (first i)
    ∙ then_same (reach_in next) (reach k step) rest (reach m step i)
    ∙ sym (more_steps step m k steps sum i)

-- and stands in the same order
pub joined_order : (table next longer : List Chain) → longer ≡ map (gone_on next) table → AreInOrder name_of_chain table
    → AreInOrder name_of_chain longer
joined_order table next longer is order =
    rw (ap (map name_of_chain) is ∙ names_of_map name_of_chain name_of_chain (gone_on next) (λ c. refl) table) order

-- where no chain goes on, the one found doesn't
none_goes_on : (n : Name) (table : List Chain) → list_any (λ c. goes_on c.reach) table ≡ false → (c : Chain)
    → item_in name_of_chain n table ≡ Some c → goes_on c.reach ≡ false
none_goes_on n [] none c there = cc
none_goes_on n (d ∷ ds) none c there = by_goes (none_goes_on n ds) (goes_on d.reach) refl none
  where
    by_name : goes_on d.reach ≡ false → (item_in name_of_chain n ds ≡ Some c → goes_on c.reach ≡ false) → (t : Bool)
        → cond t (Some d) (item_in name_of_chain n ds) ≡ Some c → goes_on c.reach ≡ false
    by_name ended rest true at = let same : d ≡ c = cc in ap (λ e. goes_on e.reach) (sym same) ∙ ended
    by_name ended rest false at = rest at

    by_goes : (list_any (λ c. goes_on c.reach) ds ≡ false → (c : Chain) → item_in name_of_chain n ds ≡ Some c
        → goes_on c.reach ≡ false) → (g : Bool) → goes_on d.reach ≡ g
        → (g || list_any (λ c. goes_on c.reach) ds) ≡ false → goes_on c.reach ≡ false
    by_goes rest true is ended = cc
    by_goes rest false is ended = by_name is (rest ended c) (is_eq (name_cmp n (name_of_chain d))) there

-- where no chain goes on, more steps change nothing
pub ended_steps : (step table : List Chain) (m steps : ℕ) → m ≤ steps → ((i : ℕ) → reach_in table i ≡ reach m step i)
    → list_any (λ c. goes_on c.reach) table ≡ false → (i : ℕ) → reach_in table i ≡ reach steps step i
ended_steps step table m steps more says none i =
    let rest : ℕ = steps - m in
    let sum : steps ≡ m + rest = omega arith in
    sym (stays (reach rest step) (reach_in table i) (by_found (item_in name_of_chain (i, 0) table) refl))
    ∙ ap (then_on (reach rest step)) (says i)
    ∙ sym (more_steps step m rest steps sum i)
  where
    stays : (f : ℕ → Reach) (r : Reach) → goes_on r ≡ false → then_on f r ≡ r
    stays f (Ended o) ended = refl
    stays f (At j) ended = cc

    by_found : (o : Option Chain) → item_in name_of_chain (i, 0) table ≡ o → goes_on (reach_of i o) ≡ false
    by_found None is = refl
    by_found (Some c) is = none_goes_on (i, 0) table none c is

-- the table of the first step says where chains are after it
begun_in : (members : List Member) (step : List Chain)
    → IsMadeFrom name_of_member name_of_chain chain_of (λ m. refl) members step → (i : ℕ)
    → reach_in step i ≡ begun i (status_in i members)
begun_in members step made i = ap (reach_of i) (made (i, 0)) ∙ by_found (item_in name_of_member (i, 0) members) refl
  where
    by_found : (o : Option Member) → item_in name_of_member (i, 0) members ≡ o
        → reach_of i (option_map chain_of o) ≡ begun i (o >>= (λ m. Some m.status))
    by_found None is = refl
    by_found (Some m) is =
        let same : (i, 0) ≡ name_of_member m =
        exact_names (i, 0) (name_of_member m) (found_in name_of_member name_cmp (i, 0) m members is) in
        ap (λ (n : Name). first_of n.0 m.status) (sym same)

-- where a worker's chain ends is who has its work
pub chain_ends : (members : List Member) (step : List Chain)
    → IsMadeFrom name_of_member name_of_chain chain_of (λ m. refl) members step → (steps : ℕ) (i : ℕ)
    → end_of (reach steps step i) ≡ follow steps members i
unfolding reach follow
chain_ends members step made zero i = refl
chain_ends members step made (suc steps) i =
    ap (λ r. end_of (then_on (reach steps step) r)) (begun_in members step made i)
    ∙ by_status (λ heir. chain_ends members step made steps heir) (status_in i members)
  where
    by_status : ((heir : ℕ) → end_of (reach steps step heir) ≡ follow steps members heir) → (s : Option Status)
        → end_of (then_on (reach steps step) (begun i s)) ≡ bearer (follow steps members) i s
    by_status rest None = refl
    by_status rest (Some Live) = refl
    by_status rest (Some Dead) = refl
    by_status rest (Some (Left heir)) = rest heir

-- the table of bearers says who has the work at the end of each chain
pub bearer_at_end : (chains : List Chain) (i : ℕ) → bearer_in i (map bearing_of chains) ≡ end_of (reach_in chains i)
bearer_at_end chains i = ap (said_of i) (item_of_map name_of_chain name_of_bearing bearing_of (λ c. refl) (i, 0) chains)
    ∙ by_found (item_in name_of_chain (i, 0) chains)
  where
    by_found : (o : Option Chain) → said_of i (option_map bearing_of o) ≡ end_of (reach_of i o)
    by_found None = refl
    by_found (Some c) = refl
