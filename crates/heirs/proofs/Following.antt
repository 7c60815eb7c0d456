-- Following the heirs of one worker, to the end of their chain or round a circle.
use Rattle.std.proofs.Common.{◌≡◌, ℕ, zero, suc, ◌+◌, ◌-◌, ◌<◌, ◌≤◌, List, length, Option, Some, None, refl, sym, ap, ◌∙◌, arith, zero-add}
use Rattle.ids.specs.Members.{bearer, follow, resolve, status_in}
use Rattle.ids.specs.declared.member.Member.{Member}
use Rattle.ids.specs.declared.member.Status.{Status}
use Rattle.ids.specs.declared.member.Status.TheVariants.{Live, Dead, Left}
use Rattle.heirs.specs.declared.bearers.chains.Reach.{Reach}
use Rattle.heirs.specs.declared.bearers.chains.Reach.TheVariants.{Ended, At}
use Rattle.heirs.specs.Chains.{begun}

-- who has the work where a chain is, by who has that of the worker that it goes on at
abbrev ended_by : (ℕ → Option ℕ) → Reach → Option ℕ
ended_by on (Ended b) = b
ended_by on (At i) = on i

-- so it is after the first step
by_begun : (on : ℕ → Option ℕ) (i : ℕ) (s : Option Status) → bearer on i s ≡ ended_by on (begun i s)
by_begun on i None = refl
by_begun on i (Some Live) = refl
by_begun on i (Some Dead) = refl
by_begun on i (Some (Left heir)) = refl

-- one worker more
one_more : (members : List Member) (n i : ℕ)
    → follow (suc n) members i ≡ ended_by (follow n members) (begun i (status_in i members))
unfolding follow
one_more members n i = by_begun (follow n members) i (status_in i members)

-- over no worker
no_more : (members : List Member) (i : ℕ) → follow 0 members i ≡ None
unfolding follow
no_more members i = refl

-- where nobody is found over so many workers, nobody is over fewer
fewer : (members : List Member) (k n i : ℕ) → k ≤ n → follow n members i ≡ None → follow k members i ≡ None
unfolding follow
fewer members zero n i le none = refl
fewer members (suc k) zero i le none = absurd (search arith)
fewer members (suc k) (suc n) i le none =
    by_status (λ heir. fewer members k n heir (search arith)) (status_in i members) none
  where
    by_status : ((heir : ℕ) → follow n members heir ≡ None → follow k members heir ≡ None) → (s : Option Status)
        → bearer (follow n members) i s ≡ None → bearer (follow k members) i s ≡ None
    by_status rest None at = cc
    by_status rest (Some Live) at = cc
    by_status rest (Some Dead) at = refl
    by_status rest (Some (Left heir)) at = rest heir at

-- a number of workers, at least so many, over which nobody is found
record IsFar (members : List Member) (i k : ℕ) : Type 0 where
  most : ℕ
  above : k ≤ most
  none : follow most members i ≡ None

-- round a circle there is one
goes_far : (members : List Member) (i p : ℕ) → ((k : ℕ) → follow (suc p + k) members i ≡ follow k members i) → (k : ℕ)
    → IsFar members i k
goes_far members i p round zero = record { most = 0; above = search arith; none = no_more members i }
goes_far members i p round (suc k) =
    let far : IsFar members i k = goes_far members i p round k in
    record { most = suc p + far.most; above = omega (arith, far.above); none = round far.most ∙ far.none }

-- so a circle ends at nobody
ends_nowhere : (members : List Member) (i p : ℕ) → ((k : ℕ) → follow (suc p + k) members i ≡ follow k members i)
    → (k : ℕ) → follow k members i ≡ None
ends_nowhere members i p round k =
    let far : IsFar members i k = goes_far members i p round k in
    fewer members k far.most i far.above far.none

-- a worker's heirs were followed to one of them, and so many more may be; some steps lead there
-- from a mark
pub record IsOnTheWay (members : List Member) (worker mark at left : ℕ) : Type 0 where
  pub rest : follow left members at ≡ resolve members worker
  pub steps : ℕ
  pub past : (k : ℕ) → follow (steps + k) members mark ≡ follow k members at

-- at the worker itself
pub way_begins : (members : List Member) (worker left : ℕ) → left ≡ suc (length members)
    → IsOnTheWay members worker worker worker left
way_begins members worker left all = record {
  rest = ap (λ n. follow n members worker) all;
  steps = 0;
  past = λ k. ap (λ n. follow n members worker) (zero-add k);
}

module _ (members : List Member) (worker mark at left : ℕ) (way : IsOnTheWay members worker mark at left) where
  -- another mark
  pub way_marked : IsOnTheWay members worker at at left
  way_marked = record {
    rest = way.rest;
    steps = 0;
    past = λ k. ap (λ n. follow n members at) (zero-add k);
  }

  -- no more may be followed
  pub way_out : left ≡ 0 → None ≡ resolve members worker
  way_out none = sym (no_more members at) ∙ ap (λ n. follow n members at) (sym none) ∙ way.rest

  -- what is left of the way, by the next step
  next_step : 0 < left → (r : Reach) → begun at (status_in at members) ≡ r
      → ended_by (follow (left - 1) members) r ≡ resolve members worker
  next_step some r is =
      let one : suc (left - 1) ≡ left = omega arith in
      ap (ended_by (follow (left - 1) members)) (sym is)
      ∙ sym (one_more members (left - 1) at)
      ∙ ap (λ n. follow n members at) one
      ∙ way.rest

  -- the chain ends
  pub way_ends : 0 < left → (b : Option ℕ) → begun at (status_in at members) ≡ Ended b → b ≡ resolve members worker
  way_ends some b is = next_step some (Ended b) is

  -- one step more leads from the mark to the heir
  past_heir : (heir : ℕ) → begun at (status_in at members) ≡ At heir → (k : ℕ)
      → follow (suc way.steps + k) members mark ≡ follow k members heir
  past_heir heir is k =
      let sum : suc way.steps + k ≡ way.steps + suc k = omega arith in
      ap (λ n. follow n members mark) sum
      ∙ way.past (suc k)
      ∙ one_more members k at
      ∙ ap (ended_by (follow k members)) is

  -- it goes on at an heir
  pub way_goes_on : 0 < left → (heir : ℕ) → begun at (status_in at members) ≡ At heir
      → IsOnTheWay members worker mark heir (left - 1)
  way_goes_on some heir is = record {
    rest = next_step some (At heir) is;
    steps = suc way.steps;
    past = past_heir heir is;
  }

  -- it comes back to the mark
  pub way_circles : 0 < left → (heir : ℕ) → begun at (status_in at members) ≡ At heir → heir ≡ mark
      → None ≡ resolve members worker
  way_circles some heir is back =
      let round : (k : ℕ) → follow (suc way.steps + k) members mark ≡ follow k members mark =
      λ k. past_heir heir is k ∙ ap (follow k members) back in
      sym (ends_nowhere members mark way.steps round (left - 1))
      ∙ ap (follow (left - 1) members) (sym back)
      ∙ next_step some (At heir) is
