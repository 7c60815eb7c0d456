-- What a commit puts back, and what its seat has then.
use Rattle.std.proofs.Common.{◌≡◌, ℕ, List, [], ◌∷◌, ◌++◌, Option, Some, None, Result, Ok, Err, IfOk, OnErr, append-nil, refl, sym, ap, ◌∙◌}
use Rattle.std.proofs.lemmas.List.Elements.{All-nil, All-cons}
use Rattle.turn_lock.specs.Histories.{AreOf, own}
use Rattle.turn_lock.proofs.HistoryLemmas.{own-append, own_mine}
use Rattle.event_script.specs.declared.event.Event.{Event}
use Rattle.world_steps.specs.declared.parts.NoMemory.{NoMemory}
use Rattle.chronicle.specs.declared.chronicle.Delivery.{Delivery}
use Rattle.chronicle.specs.declared.chronicle.Delivery.TheVariants.{Came, Looked}
use Rattle.chronicle.specs.declared.kept.Committed.{Committed}
use Rattle.chronicle.specs.declared.kept.Entry.{Entry}
use Rattle.chronicle.specs.Deliveries.{delivery, entered}
use Rattle.chronicle.specs.History.{actor_of, entry, actor_number}

pub grows : (r : Result Committed NoMemory) (event : Event) (a : ℕ) (before after : List Entry)
    (taken : Option (List Entry)) → taken ≡ Some before → actor_number event ≡ a
    → IfOk r (λ c. after ≡ before ++ entry event c.told ∷ []) → OnErr r (after ≡ before)
    → (log : List Entry) × (more : List Entry) × (taken ≡ Some log) × (after ≡ log ++ more) × AreOf actor_of a more
grows (Ok c) event a before after taken is mine ok err = (
  before,
  entry event c.told ∷ [],
  is,
  ok,
  All-cons (λ e. actor_of e ≡ a) (entry event c.told) [] mine (All-nil (λ e. actor_of e ≡ a)),
)
grows (Err e) event a before after taken is mine ok err =
    (before, [], is, err ∙ sym (append-nil before), All-nil (λ e. actor_of e ≡ a))

pub gains : (r : Result Committed NoMemory) (event : Event) (a : ℕ) (before after mine got : List Entry)
    → actor_number event ≡ a → IfOk r (λ c. after ≡ before ++ entry event c.told ∷ [])
    → own actor_of a before ≡ mine → got ≡ own actor_of a after → IfOk r (λ c. got ≡ mine ++ entry event c.told ∷ [])
gains (Ok c) event a before after mine got is grown was now =
    let one : own actor_of a (entry event c.told ∷ []) ≡ entry event c.told ∷ [] =
    own_mine actor_of a (entry event c.told ∷ [])
    (All-cons (λ e. actor_of e ≡ a) (entry event c.told) [] is (All-nil (λ e. actor_of e ≡ a))) in
    now ∙ (ap (own actor_of a) grown ∙ (own-append actor_of a before (entry event c.told ∷ [])
    ∙ (ap (λ l. l ++ own actor_of a (entry event c.told ∷ [])) was ∙ ap (λ l. mine ++ l) one)))
gains (Err e) event a before after mine got is grown was now = tt

pub first_of : (P Q : Type 0) (r : Result Committed NoMemory) → OnErr r (P × Q) → OnErr r P
first_of P Q (Ok c) h = tt
first_of P Q (Err e) h = h.0

-- a packet that was looked for: whichever comes is of the same actor
same_actor : (place : Option ℕ) (index : ℕ) → actor_number (delivery place index) ≡ actor_number (delivery place 0)
same_actor (Some p) index = refl
same_actor None index = refl

all_entered : (place : Option ℕ) (d : Delivery) (a : ℕ) → actor_number (delivery place 0) ≡ a
    → AreOf actor_of a (entered place d)
all_entered place (Came arrived c) a mine =
    All-cons (λ e. actor_of e ≡ a) (entry (delivery place arrived.index) c.told) [] (same_actor place arrived.index
    ∙ mine) (All-nil (λ e. actor_of e ≡ a))
all_entered place (Looked seen) a mine = All-nil (λ e. actor_of e ≡ a)

pub grows_by : (place : Option ℕ) (r : Result Delivery NoMemory) (a : ℕ) (before after : List Entry)
    (taken : Option (List Entry)) → taken ≡ Some before → actor_number (delivery place 0) ≡ a
    → IfOk r (λ d. after ≡ before ++ entered place d) → OnErr r (after ≡ before)
    → (log : List Entry) × (more : List Entry) × (taken ≡ Some log) × (after ≡ log ++ more) × AreOf actor_of a more
grows_by place (Ok d) a before after taken is mine ok err =
    (before, entered place d, is, ok, all_entered place d a mine)
grows_by place (Err e) a before after taken is mine ok err =
    (before, [], is, err ∙ sym (append-nil before), All-nil (λ e. actor_of e ≡ a))

pub gains_by : (place : Option ℕ) (r : Result Delivery NoMemory) (a : ℕ) (before after mine got : List Entry)
    → actor_number (delivery place 0) ≡ a → IfOk r (λ d. after ≡ before ++ entered place d)
    → own actor_of a before ≡ mine → got ≡ own actor_of a after → IfOk r (λ d. got ≡ mine ++ entered place d)
gains_by place (Ok d) a before after mine got is grown was now =
    let more : own actor_of a (entered place d) ≡ entered place d =
    own_mine actor_of a (entered place d) (all_entered place d a is) in
    now ∙ (ap (own actor_of a) grown ∙ (own-append actor_of a before (entered place d)
    ∙ (ap (λ l. l ++ own actor_of a (entered place d)) was ∙ ap (λ l. mine ++ l) more)))
gains_by place (Err e) a before after mine got is grown was now = tt
