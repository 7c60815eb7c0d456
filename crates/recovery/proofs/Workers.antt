-- Who has a worker's work is a worker, since heirs are workers.
use Rattle.std.proofs.Common.{◌≡◌, ℕ, zero, suc, Bool, true, false, not, nat_eq, is_some, option_copied, Bor, Result, Ok, Err, IfOk, inl, inr, List, length, Option, Some, None, IsTrue, refl, sym, ap, subst, ◌∙◌}
use Rattle.std.specs.List.{AllByRecursion}
use Rattle.std.proofs.lemmas.Bool.Decides.{eqb_tells}
use Rattle.ids.specs.Members.{bearer, follow, resolve, status_in}
use Rattle.ids.specs.Named.{item_in}
use Rattle.ids.specs.Names.{is_worker}
use Rattle.ids.specs.Naming.{name_of_member}
use Rattle.ids.specs.Options.{◌>>=◌}
use Rattle.ids.specs.declared.member.Member.{Member}
use Rattle.ids.specs.declared.member.Status.{Status}
use Rattle.ids.specs.declared.member.Status.TheVariants.{Live, Dead, Left}
use Rattle.recovery.proofs.Orders.{all_found}

-- an heir is a worker
abbrev pub HasWorker : Status → Type 0
HasWorker Live = Unit {0}
HasWorker Dead = Unit {0}
HasWorker (Left heir) = IsTrue (is_worker heir)

-- all heirs are workers
abbrev pub AreWorkers : List Member → Type 0
AreWorkers members = AllByRecursion (λ (m : Member). HasWorker m.status) members

-- what is said of a worker names a worker
said : (i : ℕ) (members : List Member) (s : Status) → AreWorkers members → status_in i members ≡ Some s → HasWorker s
said i members s all is = by_member (item_in name_of_member (i, 0) members) refl is
  where
    by_member : (o : Option Member) → item_in name_of_member (i, 0) members ≡ o → (o >>= (λ m. Some m.status)) ≡ Some s
        → HasWorker s
    by_member None there at = cc
    by_member (Some m) there at =
        let same : m.status ≡ s = cc in
        subst HasWorker same (all_found name_of_member (λ (x : Member). HasWorker x.status) (i, 0) m members all there)

-- over a number of heirs
leads : (k : ℕ) (members : List Member) (i j : ℕ) → AreWorkers members → IsTrue (is_worker i)
    → follow k members i ≡ Some j → IsTrue (is_worker j)
unfolding follow
leads zero members i j all worker is = cc
leads (suc k) members i j all worker is = by_status (λ heir. leads k members heir j all) (status_in i members) refl is
  where
    by_status : ((heir : ℕ) → IsTrue (is_worker heir) → follow k members heir ≡ Some j → IsTrue (is_worker j))
        → (o : Option Status) → status_in i members ≡ o → bearer (follow k members) i o ≡ Some j → IsTrue (is_worker j)
    by_status rest None there at = let same : i ≡ j = cc in subst (λ n. IsTrue (is_worker n)) same worker
    by_status rest (Some Live) there at = let same : i ≡ j = cc in subst (λ n. IsTrue (is_worker n)) same worker
    by_status rest (Some Dead) there at = cc
    by_status rest (Some (Left heir)) there at = rest heir (said i members (Left heir) all there) at

-- who has a worker's work is a worker
pub heirs_work : (members : List Member) → AreWorkers members → (i j : ℕ) → IsTrue (is_worker i)
    → resolve members i ≡ Some j → IsTrue (is_worker j)
heirs_work members all i j worker is = leads (suc (length members)) members i j all worker is

-- numbers that a test doesn't tell apart
pub not_apart : (m n : ℕ) → false ≡ not (nat_eq m n) → m ≡ n
not_apart m n is = elim (eqb_tells m n) [
  | inl both ↦ both.1
  | inr both ↦ let apart : not (nat_eq m n) ≡ true = ap not both.0 in cc
]

-- nothing is found where a look finds none
pub none_copied : {X : Type 0} (o : Option (Bor X)) → is_some o ≡ false → option_copied o ≡ None
none_copied None is = refl
none_copied (Some x) is = cc

-- what holds of a value if there is one
pub if_ok : {T E : Type 0} {P Q : T → Type 0} (r : Result T E) → ((x : T) → P x → Q x) → IfOk r P → IfOk r Q
if_ok (Ok x) f p = f x p
if_ok (Err e) f p = tt
