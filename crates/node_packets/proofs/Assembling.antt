-- What a Piece that comes leads to.
use Rattle.std.proofs.Common.{◌≡◌, ℕ, suc, ◌+◌, Bool, true, false, cond, not, ◌&&◌, nat_eq, nat_lt, List, [], ◌∷◌, ◌++◌, length, Option, Some, None, is_some, Result, Err, Ordering, Less, Equal, Greater, refl, ap, subst, ◌∙◌, arith}
use Rattle.std.proofs.lemmas.Bool.{eqb-true, lt-ltb}
use Rattle.ids.specs.Named.{name_cmp}
use Rattle.codec.specs.Pieces.{PartOf, joined, long_reading, name_of_part}
use Rattle.codec.specs.declared.body.Body.TheVariants as body
use Rattle.codec.specs.declared.body.Offer.{Offer}
use Rattle.codec.specs.declared.body.Piece.{Piece}
use Rattle.codec.specs.declared.body.Roster.{Roster}
use Rattle.departure.specs.Offers.{offered}
use Rattle.serial_meaning.specs.Job.{JobOf}
use Rattle.subcomputation.specs.Fitting.{content_fits}
use Rattle.subcomputation.specs.Subs.{sub_in}
use Rattle.node_state.specs.Assemblies.{AssemblyOf, assembly_in, part_in, part_of, put_part, without_assembly}
use Rattle.node_state.specs.Node.{NodeOf, by_state, hop_in}
use Rattle.node_state.specs.declared.parts.State.TheVariants.{Member}
use Rattle.node_steps.specs.Cases.{Candidate, belongs, collected, collects, is_above, member_offered, on_body, or_forgets, put_together, said_by}
use Rattle.level_deques.specs.declared.posts.Post.{Post}
use Rattle.node_steps.specs.Meeting.{Carries, IsNode, Meets, NodeOn}
use Rattle.node_steps.specs.Steps.{Answer, Ignored, Refused, Does, Forgets, StepOf}
use Rattle.node_steps.specs.declared.error.NodeError.{NodeError}
use Rattle.node_steps.specs.declared.error.NodeError.TheVariants as error
use Rattle.node_steps.specs.declared.parts.Step.{Step}
use Rattle.node_steps.proofs.Keeping.{kept, same_leaving}

-- a part whose number isn't there adds one to those that are
one_longer : (y : PartOf) (parts : List PartOf) → part_in y.number parts ≡ None
    → length (put_part y parts) ≡ suc (length parts)
one_longer y [] missing = refl
one_longer y (z ∷ zs) missing = by_order (one_longer y zs) (name_cmp (name_of_part y) (name_of_part z)) refl missing
  where
    by_order : (part_in y.number zs ≡ None → length (put_part y zs) ≡ suc (length zs)) → (o : Ordering)
        → name_cmp (name_of_part y) (name_of_part z) ≡ o → part_in y.number (z ∷ zs) ≡ None
        → length (put_part y (z ∷ zs)) ≡ suc (length (z ∷ zs))
    by_order rest Less at gone = rw at refl
    by_order rest Equal at gone = let here : Some z ≡ None = rw at at gone in cc
    by_order rest Greater at gone = rw at (ap suc (rest (rw at at gone)))

pub one_more : (y : PartOf) (parts : List PartOf) → part_in y.number parts ≡ None
    → length (put_part y parts) ≡ length parts + 1
one_more y parts missing = omega (arith, one_longer y parts missing)

-- where there are as many as are wanted, or more, one more doesn't make them as many
pub not_last : (n m : ℕ) → nat_lt n m ≡ false → nat_lt n m ≡ nat_eq (n + 1) m
not_last n m all = by_test (nat_eq (n + 1) m) refl
  where
    by_test : (b : Bool) → nat_eq (n + 1) m ≡ b → nat_lt n m ≡ b
    by_test false other = all
    by_test true last = let same : n + 1 ≡ m = eqb-true (n + 1) m last in lt-ltb n m (omega (arith, same))

-- a part that stands before all of these, and one that stands behind the first
pub before_all : (y z : PartOf) (zs : List PartOf) → nat_lt y.number z.number ≡ true
    → joined (put_part y (z ∷ zs)) ≡ y.bytes ++ (z.bytes ++ joined zs)
before_all y z zs less = rw less refl

pub behind_first : (y z : PartOf) (zs : List PartOf) → nat_lt y.number z.number ≡ false
    → part_in y.number (z ∷ zs) ≡ None → (joined (put_part y (z ∷ zs)) ≡ z.bytes ++ joined (put_part y zs))
    × (part_in y.number zs ≡ None)
behind_first y z zs more none = by_same (nat_eq y.number z.number) refl
  where
    by_same : (u : Bool) → nat_eq y.number z.number ≡ u
        → (joined (put_part y (z ∷ zs)) ≡ z.bytes ++ joined (put_part y zs)) × (part_in y.number zs ≡ None)
    by_same true same = let here : Some z ≡ None = rw (more, same) at none in cc
    by_same false same = (rw (more, same) refl, rw (more, same) at none)

-- what is still to come of the joined bytes: a part is among them already, or isn't and has no part
-- of its number there
abbrev pub to_come : Bool → PartOf → List PartOf → List ℕ
to_come true y parts = joined parts
to_come false y parts = joined (put_part y parts)

abbrev pub IsToCome : Bool → PartOf → List PartOf → Type 0
IsToCome true y parts = Unit {0}
IsToCome false y parts = part_in y.number parts ≡ None

-- what is answered to an Offer by a node with other assemblies
abbrev pub with_assemblies : List AssemblyOf → NodeOf → NodeOf
with_assemblies xs n = record n { assemblies = xs }

abbrev answered_beside : List AssemblyOf → Answer → Answer
answered_beside xs Ignored = Ignored
answered_beside xs (Refused e) = Refused e
answered_beside xs (Does s) = Does (record s { after = with_assemblies xs s.after })
answered_beside xs (Forgets m) = Forgets (with_assemblies xs m)

offered_beside : (job : JobOf) (r : Roster) (o : Offer) (n : NodeOf) (xs : List AssemblyOf)
    → member_offered job r o (with_assemblies xs n) ≡ answered_beside xs (member_offered job r o n)
offered_beside job r o n xs = by_hop (is_above o.hop (hop_in o.grant n.seen)) refl
  where
    fits : Bool
    fits = not (is_some (sub_in o.grant n.subs)) && content_fits job.program n.incarnation n.subs (offered o).content

    by_fit : (b : Bool) → is_above o.hop (hop_in o.grant n.seen) ≡ true → fits ≡ b
        → member_offered job r o (with_assemblies xs n) ≡ answered_beside xs (member_offered job r o n)
    by_fit true above is = rw above (rw is refl)
    by_fit false above is = rw above (rw is refl)

    by_hop : (b : Bool) → is_above o.hop (hop_in o.grant n.seen) ≡ b
        → member_offered job r o (with_assemblies xs n) ≡ answered_beside xs (member_offered job r o n)
    by_hop true is = by_fit fits is refl
    by_hop false is = rw is refl

-- a node that forgets the parts of a grant
abbrev pub forgetting : List AssemblyOf → NodeOn → NodeOn
forgetting xs n = record n { node = with_assemblies xs n.node }

-- an Offer is taken that comes whole, and then what was kept of it goes
carried_beside : (xs : List AssemblyOf) (a : Answer) (step : Step) (old new : NodeOn) → Carries a step old new
    → Carries (or_forgets (with_assemblies xs old.node) (answered_beside xs a)) step old (forgetting xs new)
unfolding or_forgets
carried_beside xs Ignored step old new is = (is.0, ap (forgetting xs) is.1)
carried_beside xs (Refused e) step old new is = absurd is
carried_beside xs (Does s) step old new is = (is.0, ap (forgetting xs) is.1)
carried_beside xs (Forgets m) step old new is = (is.0, ap (forgetting xs) is.1)

pub taken_whole : (job : JobOf) (r : Roster) (o : Offer) (xs : List AssemblyOf) (step : Step) (old new : NodeOn)
    → Carries (member_offered job r o old.node) step old new
    → Carries (or_forgets (with_assemblies xs old.node) (member_offered job r o (with_assemblies xs old.node))) step old
    (forgetting xs new)
taken_whole job r o xs step old new is =
    rw (offered_beside job r o old.node xs) (carried_beside xs (member_offered job r o old.node) step old new is)

-- an error is answered as it was
pub failed_whole : (a b : Answer) (e : NodeError) (old new : NodeOn) → ((x : NodeError) → a ≡ Refused x → ⊥)
    → Meets a (Err e) old new → Meets b (Err e) old new
failed_whole a b error.Memory old new never is = is
failed_whole a b (error.Bytes fault) old new never is = absurd (never _ is.0)
failed_whole a b error.Stale old new never is = absurd (never _ is.0)
failed_whole a b error.NoValue old new never is = absurd (never _ is.0)
failed_whole a b error.Pending old new never is = absurd (never _ is.0)
failed_whole a b error.TooBig old new never is = absurd (never _ is.0)
failed_whole a b error.HopSpent old new never is = absurd (never _ is.0)
failed_whole a b error.NoHeir old new never is = absurd (never _ is.0)
failed_whole a b error.NotJoined old new never is = absurd (never _ is.0)
failed_whole a b error.Busy old new never is = absurd (never _ is.0)
failed_whole a b error.Spent old new never is = absurd (never _ is.0)

-- an Offer is never refused
pub never_refused : (job : JobOf) (r : Roster) (o : Offer) (n : NodeOf) (x : NodeError)
    → member_offered job r o n ≡ Refused x → ⊥
never_refused job r o n x = by_hop (is_above o.hop (hop_in o.grant n.seen))
    (not (is_some (sub_in o.grant n.subs)) && content_fits job.program n.incarnation n.subs (offered o).content) _ _
  where
    by_hop : (b c : Bool) (s t : StepOf) → cond b (cond c (Does s) Ignored) (Does t) ≡ Refused x → ⊥
    by_hop true true s t is = cc
    by_hop true false s t is = cc
    by_hop false c s t is = cc

-- an Offer that comes whole, at a member
offered_at : (job : JobOf) (choice : Option Candidate) (r : Roster) (o : Offer) (n : NodeOf) → n.state ≡ Member r
    → on_body job choice (body.Offer o) n ≡ member_offered job r o n
unfolding on_body by_state
offered_at job choice r o n at = rw at refl

module _ (job : JobOf) (choice : Option Candidate) (r : Roster) (o : Offer) (xs : List AssemblyOf) (old new : NodeOn)
    (at : old.node.state ≡ Member r) where
  -- the Offer that parts spelled is taken, or there was no memory
  pub takes_joined : (step : Step) → Carries (on_body job choice (body.Offer o) old.node) step old new
      → Carries (put_together job r (Some o) (with_assemblies xs old.node)) step old (forgetting xs new)
  unfolding put_together
  takes_joined step is = taken_whole job r o xs step old new (rw (offered_at job choice r o old.node at) at is)

  -- an Offer changes no parts that came
  pub keeps_others : (step : Step) → Carries (on_body job choice (body.Offer o) old.node) step old new
      → new.node.assemblies ≡ old.node.assemblies
  keeps_others step is = by_tests (is_above o.hop (hop_in o.grant old.node.seen))
      (not (is_some (sub_in o.grant old.node.subs))
      && content_fits job.program old.node.incarnation old.node.subs (offered o).content) _ _ refl refl
      (rw (offered_at job choice r o old.node at) at is)
    where
      by_tests : (b c : Bool) (s t : StepOf) → s.after.assemblies ≡ old.node.assemblies
          → t.after.assemblies ≡ old.node.assemblies → Carries (cond b (cond c (Does s) Ignored) (Does t)) step old new
          → new.node.assemblies ≡ old.node.assemblies
      by_tests true true s t own other came = ap (λ (n : NodeOn). n.node.assemblies) came.1 ∙ own
      by_tests true false s t own other came = ap (λ (n : NodeOn). n.node.assemblies) came.1
      by_tests false c s t own other came = ap (λ (n : NodeOn). n.node.assemblies) came.1 ∙ other

  pub lacks_joined : (e : NodeError) → Meets (on_body job choice (body.Offer o) old.node) (Err e) old new
      → Meets (put_together job r (Some o) (with_assemblies xs old.node)) (Err e) old new
  lacks_joined e is = failed_whole (member_offered job r o old.node)
      (put_together job r (Some o) (with_assemblies xs old.node)) e old new (never_refused job r o old.node)
      (subst (λ a. Meets a (Err e) old new) (offered_at job choice r o old.node at) is)

-- the part of a Piece is the last one
pub with_last : (job : JobOf) (r : Roster) (b : Piece) (a : AssemblyOf) (n : NodeOf) (said : Option Offer)
    (bytes : List ℕ) (result : Result Step NodeError) (old new : NodeOn) → assembly_in b.grant n.assemblies ≡ Some a
    → nat_lt a.hop b.hop ≡ false → belongs b a ≡ true → nat_eq (length (put_part (part_of b) a.parts)) a.pieces ≡ true
    → bytes ≡ joined (put_part (part_of b) a.parts) → said ≡ said_by job b n (long_reading bytes)
    → Meets (put_together job r said (with_assemblies (without_assembly b.grant n.assemblies) n)) result old new
    → Meets (collected job r b (collects b (assembly_in b.grant n.assemblies)) n) result old new
unfolding collected collects
with_last job r b a n said bytes result old new there hop of last all is meets =
    rw there (rw hop (rw of (rw last (rw (← all) (rw (← is) meets)))))

-- parts are nothing to what holds of a node
pub keeps_parts : (job : JobOf) (n : NodeOf) (xs : List AssemblyOf) (posts after : List Post)
    → IsNode (record { job = job; node = n; posts = posts })
    → IsNode (record { job = job; node = with_assemblies xs n; posts = after })
keeps_parts job n xs posts after is =
    kept job n (with_assemblies xs n) posts after is
    (same_leaving job n (with_assemblies xs n) refl refl refl is.leaving) refl refl refl
