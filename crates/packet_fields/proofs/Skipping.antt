-- Passing over fields one after the other: what their readings give of a value and of the bytes
-- that are left.
use Rattle.std.proofs.Common.{◌≡◌, ℕ, suc, ◌-◌, ◌+◌, ◌<◌, List, ◌∷◌, Option, Some, Result, Ok, Err, refl, sym, ap, subst, ◌∙◌, arith}
use Rattle.packet_fields.specs.declared.fault.Fault.{Fault}
use Rattle.packet_fields.proofs.FormatLaws.{ok_is}
use Rattle.packet_fields.specs.Format.{Format, ◌>>=◌, end_of, items, keeping, plain}

-- a reading whose end is known gave a value
pub ended : {X : Type 0} (r : Result (X × List ℕ) Fault) (to : List ℕ) → end_of r ≡ Ok to → (x : X) × (r ≡ Ok (x, to))
ended (Ok x) to e =
    let left : x.1 ≡ to = ok_is x.1 to e in
    (x.0, rw (← left) refl)
ended (Err f) to e = absurd cc

pub not_ended : {X : Type 0} (r : Result (X × List ℕ) Fault) (f : Fault) → end_of r ≡ Err f → r ≡ Err f
not_ended (Ok x) f e = absurd cc
not_ended (Err g) f e = cc

-- and so did one of which a part is known
pub kept : {K X : Type 0} (part : X → K) (r : Result (X × List ℕ) Fault) (k : K) (to : List ℕ)
    → keeping part r ≡ Ok (k, to) → (x : X) × (r ≡ Ok (x, to)) × (part x ≡ k)
kept {K = K} part (Ok x) k to e =
    let both : (part x.0, x.1) ≡ (k, to) = ok_is (part x.0, x.1) (k, to) e in
    let left : x.1 ≡ to = ap (λ (p : K × List ℕ). p.1) both in
    (x.0, rw (← left) refl, ap (λ (p : K × List ℕ). p.0) both)
kept part (Err f) k to e = absurd cc

pub not_kept : {K X : Type 0} (part : X → K) (r : Result (X × List ℕ) Fault) (f : Fault) → keeping part r ≡ Err f
    → r ≡ Err f
not_kept part (Ok x) f e = absurd cc
not_kept part (Err g) f e = cc

-- another name for the value leaves the end
pub same_end : {X Y : Type 0} (r : Result (X × List ℕ) Fault) (make : X → Y)
    → end_of (r >>= λ x. Ok (make x.0, x.1)) ≡ end_of r
same_end (Ok x) make = refl
same_end (Err f) make = refl

-- items of which each may depend on the one before

pub skips_behind : {K X : Type 0} (key : X → K) (F : Option K
    → Format X) (last : Option K) (count i : ℕ) (from : List ℕ) (x : X) (to : List ℕ) (total : Result (List ℕ) Fault)
    → i < count → (F last).read from ≡ Ok (x, to)
    → end_of ((items key F last (count - i)).read from) ≡ total
    → end_of ((items key F (Some (key x)) (count - (i + 1))).read to) ≡ total
skips_behind {X = X} key F last count i from x to total lt h so_far =
    let n : count - i ≡ suc (count - (i + 1)) = omega arith in
    let one : end_of ((items key F last (count - i)).read from)
    ≡ end_of ((items key F (Some (key x)) (count - (i + 1))).read to) =
    rw (n, h) (same_end ((items key F (Some (key x)) (count - (i + 1))).read to) (λ (xs : List X). x ∷ xs)) in
    sym one ∙ so_far

pub skips_on : {K X : Type 0} (key : X → K) (F : Option K
    → Format X) (last : Option K) (count i : ℕ) (from : List ℕ) (k : K) (to : List ℕ) (total : Result (List ℕ) Fault)
    → i < count → keeping key ((F last).read from) ≡ Ok (k, to)
    → end_of ((items key F last (count - i)).read from) ≡ total
    → end_of ((items key F (Some k) (count - (i + 1))).read to) ≡ total
skips_on {K = K} key F last count i from k to total lt h so_far =
    let p = kept key ((F last).read from) k to h in
    subst (λ (k' : K). end_of ((items key F (Some k') (count - (i + 1))).read to) ≡ total) p.2
    (skips_behind key F last count i from p.0 to total lt p.1 so_far)

pub stops : {K X : Type 0} (key : X → K) (F : Option K
    → Format X) (last : Option K) (f : Fault) (count i : ℕ) (from : List ℕ) (total : Result (List ℕ) Fault)
    → i < count → keeping key ((F last).read from) ≡ Err f → end_of ((items key F last (count - i)).read from) ≡ total
    → total ≡ Err f
stops key F last f count i from total lt h so_far =
    let n : count - i ≡ suc (count - (i + 1)) = omega arith in
    let e = not_kept key ((F last).read from) f h in
    let one : end_of ((items key F last (count - i)).read from) ≡ Err f = rw (n, e) refl in
    sym so_far ∙ one

-- items of one format

pub skips_item : {X : Type 0} (F : Format X) (count i : ℕ) (from : List ℕ) (x : X) (to : List ℕ)
    (total : Result (List ℕ) Fault)
    → i < count → F.read from ≡ Ok (x, to)
    → end_of ((plain F (count - i)).read from) ≡ total
    → end_of ((plain F (count - (i + 1))).read to) ≡ total
skips_item {X = X} F count i from x to total lt h so_far =
    let n : count - i ≡ suc (count - (i + 1)) = omega arith in
    let one : end_of ((plain F (count - i)).read from) ≡ end_of ((plain F (count - (i + 1))).read to) =
    rw (n, h) (same_end ((plain F (count - (i + 1))).read to) (λ (xs : List X). x ∷ xs)) in
    sym one ∙ so_far

pub stops_at : {X : Type 0} (F : Format X) (f : Fault) (count i : ℕ) (from : List ℕ) (total : Result (List ℕ) Fault)
    → i < count → F.read from ≡ Err f → end_of ((plain F (count - i)).read from) ≡ total → total ≡ Err f
stops_at F f count i from total lt h so_far =
    let n : count - i ≡ suc (count - (i + 1)) = omega arith in
    let one : end_of ((plain F (count - i)).read from) ≡ Err f = rw (n, h) refl in
    sym so_far ∙ one
