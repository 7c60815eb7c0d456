-- Reading so many items one after the other, as a loop does.
use Rattle.std.proofs.Common.{◌≡◌, ℕ, zero, suc, ◌-◌, ◌+◌, ◌≤◌, ◌<◌, Bool, true, cond, nat_lt, List, [], ◌∷◌, ◌++◌, length, Option, Some, Result, Ok, Err, refl, sym, ap, subst, ◌∙◌, append_assoc, arith}
use Rattle.std.specs.Prelude.{nat_le}
use Rattle.std.specs.List.{list_all}
use Rattle.std.proofs.lemmas.Bool.{le-leb}
use Rattle.ids.specs.Place.{is_place}
use Rattle.packet_fields.specs.declared.fault.Fault.{Fault}
use Rattle.packet_fields.specs.declared.fault.Fault.TheVariants.{Field}
use Rattle.packet_fields.specs.declared.fault.ReadError.{ReadError}
use Rattle.packet_fields.specs.declared.fault.ReadError.TheVariants as errors
use Rattle.packet_fields.specs.Format.{Format, ◌>>=◌, Fails, items, number, plain}
use Rattle.packet_fields.specs.Fields.{step}
use Rattle.packet_fields.proofs.FormatLaws.{bind_ok, test_ok, ok_is}

-- what was read before, and what is still read
abbrev pub with_front : {X : Type 0} → List X → Result (List X × List ℕ) Fault → Result (List X × List ℕ) Fault
with_front front read = read >>= λ x. Ok (front ++ x.0, x.1)

regroup : {X : Type 0} (front : List X) (x : X) (read : Result (List X × List ℕ) Fault)
    → with_front front (read >>= λ xs. Ok (x ∷ xs.0, xs.1)) ≡ with_front (front ++ x ∷ []) read
regroup {X = X} front x (Ok r) = ap (λ (xs : List X). Ok (xs, r.1)) (simp append_assoc)
regroup front x (Err f) = refl

-- items of which each may depend on the one before

pub goes_on : {K X : Type 0} (key : X → K) (F : Option K
    → Format X) (last : Option K) (front : List X) (count i : ℕ) (from : List ℕ) (x : X) (to : List ℕ)
    (total : Result (List X × List ℕ) Fault)
    → i < count → (F last).read from ≡ Ok (x, to)
    → with_front front ((items key F last (count - i)).read from) ≡ total
    → with_front (front ++ x ∷ []) ((items key F (Some (key x)) (count - (i + 1))).read to) ≡ total
goes_on key F last front count i from x to total lt h so_far =
    let k : count - i ≡ suc (count - (i + 1)) = omega arith in
    let one : with_front front ((items key F last (count - i)).read from)
    ≡ with_front (front ++ x ∷ []) ((items key F (Some (key x)) (count - (i + 1))).read to) =
    rw (k, h) (regroup front x ((items key F (Some (key x)) (count - (i + 1))).read to)) in
    sym one ∙ so_far

pub ends : {K X : Type 0} (key : X → K) (F : Option K
    → Format X) (last : Option K) (e : ReadError) (front : List X) (count i : ℕ) (from : List ℕ)
    (total : Result (List X × List ℕ) Fault)
    → i < count → Fails e ((F last).read from) → with_front front ((items key F last (count - i)).read from) ≡ total
    → Fails e total
ends key F last errors.Memory front count i from total lt h so_far = tt
ends key F last (errors.Fault f) front count i from total lt h so_far =
    let k : count - i ≡ suc (count - (i + 1)) = omega arith in
    let one : with_front front ((items key F last (count - i)).read from) ≡ Err f = rw (k, h) refl in
    sym so_far ∙ one

-- items of one format

pub goes_on_plain : {X : Type 0} (F : Format X) (front : List X) (count i : ℕ) (from : List ℕ) (x : X) (to : List ℕ)
    (total : Result (List X × List ℕ) Fault)
    → i < count → F.read from ≡ Ok (x, to)
    → with_front front ((plain F (count - i)).read from) ≡ total
    → with_front (front ++ x ∷ []) ((plain F (count - (i + 1))).read to) ≡ total
goes_on_plain F front count i from x to total lt h so_far =
    let k : count - i ≡ suc (count - (i + 1)) = omega arith in
    let one : with_front front ((plain F (count - i)).read from)
    ≡ with_front (front ++ x ∷ []) ((plain F (count - (i + 1))).read to) =
    rw (k, h) (regroup front x ((plain F (count - (i + 1))).read to)) in
    sym one ∙ so_far

pub ends_plain : {X : Type 0} (F : Format X) (e : ReadError) (front : List X) (count i : ℕ) (from : List ℕ)
    (total : Result (List X × List ℕ) Fault)
    → i < count → Fails e (F.read from) → with_front front ((plain F (count - i)).read from) ≡ total → Fails e total
ends_plain F errors.Memory front count i from total lt h so_far = tt
ends_plain F (errors.Fault f) front count i from total lt h so_far =
    let k : count - i ≡ suc (count - (i + 1)) = omega arith in
    let one : with_front front ((plain F (count - i)).read from) ≡ Err f = rw (k, h) refl in
    sym so_far ∙ one

-- where each item passes a test, so do all that are read, and there are as many as were counted
pub all_pass : {X : Type 0} (F : Format X) (test : X → Bool)
    → ((from : List ℕ) (x : X × List ℕ) → F.read from ≡ Ok x → test x.0 ≡ true)
    → (count : ℕ) (from : List ℕ) (xs : List X × List ℕ) → (plain F count).read from ≡ Ok xs
    → (length xs.0 ≡ count) × (list_all test xs.0 ≡ true)
all_pass {X = X} F test each zero from xs e =
    subst (λ (ys : List X × List ℕ). (length ys.0 ≡ 0) × (list_all test ys.0 ≡ true)) (ok_is ([], from) xs e)
    (refl, refl)
all_pass {X = X} F test each (suc n) from xs e =
    let first = bind_ok (F.read from) (λ x. (plain F n).read x.1 >>= λ others. Ok (x.0 ∷ others.0, others.1)) xs e in
    let others = bind_ok ((plain F n).read first.0.1) (λ others. Ok (first.0.0 ∷ others.0, others.1)) xs first.2 in
    let rest = all_pass F test each n first.0.1 others.0 others.1 in
    let made : List X × List ℕ = (first.0.0 ∷ others.0.0, others.0.1) in
    let here : test first.0.0 ≡ true = each from first.0 first.1 in
    subst (λ (ys : List X × List ℕ). (length ys.0 ≡ suc n) × (list_all test ys.0 ≡ true)) (ok_is made xs others.2)
    (ap suc rest.0, rw (here, rest.1) refl)

step_passes : (from : List ℕ) (x : ℕ × List ℕ) → step.read from ≡ Ok x → nat_lt x.0 9 ≡ true
unfolding step
step_passes from x e =
    let first = bind_ok ((number 1).read from) (λ y. cond (nat_lt y.0 9) (Ok y) (Err Field)) x e in
    let test = test_ok (nat_lt first.0.0 9) Field first.0 x first.2 in
    subst (λ (y : ℕ × List ℕ). nat_lt y.0 9 ≡ true) test.1 test.0

-- at most 1,024 steps that are read are a place
pub is_place_read : (count : ℕ) (from steps to : List ℕ) → count ≤ 1024 → (plain step count).read from ≡ Ok (steps, to)
    → is_place steps ≡ true
is_place_read count from steps to le e =
    let all = all_pass step (λ s. nat_lt s 9) step_passes count from (steps, to) e in
    let short : nat_le (length steps) 1024 ≡ true = le-leb (length steps) 1024 (omega (arith, all.0)) in
    rw (short, all.1) refl
