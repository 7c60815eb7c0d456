-- Where no kind is at fault, a body reaches an end.
use Rattle.std.proofs.Common.{◌≡◌, ◌∙◌, ◌≤◌, ◌+◌, ℕ, suc, ℤ, pos, refl, ap, arith, Bool, true, false, List, [], ◌∷◌, ◌++◌, length, Option, Some, None, if◌then◌else◌, slice_get, nat_lt, ◌==◌}
use Rattle.std.proofs.lemmas.Bool.Decides.{nat_tests}
use Rattle.std.specs.Ordering.{int_eq}
use Rattle.std.specs.Str.{bytes_eq}
use Rattle.task_tree.specs.declared.tree.Name.{Name}
use Rattle.task_tree.specs.declared.tree.Argument.{Argument}
use Rattle.task_tree.specs.declared.tree.Argument.TheVariants as argument
use Rattle.task_tree.specs.declared.tree.Given.{Given}
use Rattle.task_tree.specs.declared.tree.Given.TheVariants.{Sent, Spawned}
use Rattle.task_tree.specs.declared.tree.Use.{Use}
use Rattle.task_tree.specs.declared.tree.Block.{Block}
use Rattle.task_tree.specs.declared.tree.End.{End}
use Rattle.task_tree.specs.declared.tree.End.TheVariants.{If', Send, Next}
use Rattle.task_tree.specs.declared.tree.Thread.{Thread}
use Rattle.task_tree.specs.declared.tree.Program.{Program}
use Rattle.kind_check.specs.declared.checked.KindFault.TheVariants.{Arity}
use Rattle.kind_check.specs.declared.names.Kind.TheVariants.{Waits}
use Rattle.kind_check.specs.declared.turn.Slot.{Slot}
use Rattle.kind_check.specs.declared.turn.Slot.TheVariants.{Filled, Awaits}
use Rattle.kind_check.specs.declared.turn.Turn.{Turn}
use Rattle.kind_check.specs.declared.turn.Turn.TheVariants.{Sends, Joins}
use Rattle.kind_check.specs.Value.{Env, value_of}
use Rattle.kind_check.specs.Turns.{◌>>=◌, after_lets, thread_from, thread_of, use_of, slot_for, slots_of, end_turn, block_turn}
use Rattle.kind_check.specs.Faults.{Scope, kind_of, with_name, new_faults, own_faults, hole_faults, expr_faults, exprs_faults, lets_faults, after_names, arity_faults, thread_named, call_faults, arguments_faults, after_arguments, given_faults, uses_faults, used_faults, unused_faults, end_faults, block_faults}
use Rattle.kind_check.specs.Total.{Takes, SlotFits, SlotsFit, TurnFits}
use Rattle.kind_check.proofs.Known.{Defined, Covers, none_left, test_passed, covers_hole, expr_known, exprs_known, lets_known}

-- the first thread of a name, and its number
record Named (ts : List Thread) (name : List ℕ) (thread : Thread) : Type 0 where
  number : ℕ
  is : (i : ℕ) → thread_from i ts name ≡ Some (i + number)
  at : slice_get ts number ≡ Some thread

-- the first thread of a name has a number
named_at : (ts : List Thread) (name : List ℕ) (thread : Thread) → thread_named ts name ≡ Some thread
    → Named ts name thread
named_at [] name thread e = absurd cc
named_at (t ∷ ts) name thread e = at_test (bytes_eq t.name.text name) refl (named_at ts name thread) e
  where
    at_test : (b : Bool) → bytes_eq t.name.text name ≡ b → (thread_named ts name ≡ Some thread → Named ts name thread)
        → (if b then Some t else thread_named ts name) ≡ Some thread → Named (t ∷ ts) name thread
    at_test true f h e = record { number = 0; is = λ i. rw f (ap Some (omega arith)); at = e }
    at_test false f h e =
        let r = h e in
        record { number = suc r.number; is = λ i. rw f (r.is (i + 1) ∙ ap Some (omega arith)); at = r.at }

-- a spawned thread is there, and takes as many numbers as it is given
pub record CallKnown (p : Program) (name : Name) (count : ℕ) : Type 0 where
  pub number : ℕ
  pub is : thread_of p.threads name.text ≡ Some number
  pub takes : Takes p number count

-- a call without fault is of a thread that is there
pub call_known : (p : Program) (name : Name) (count : ℕ) → call_faults p.threads name count ≡ []
    → CallKnown p name count
call_known p name count h = at_thread (thread_named p.threads name.text) refl h
  where
    takes_as : (number : ℕ) (t : Thread) → slice_get p.threads number ≡ Some t → length t.numbers ≡ count
        → Takes p number count
    takes_as number t e f = record { arity = rw (e, f) refl }

    passed : (t : Thread) → (length t.numbers == count) ≡ true → length t.numbers ≡ count
    passed t e = grind (arith, nat_tests)

    at_thread : (o : Option Thread) → thread_named p.threads name.text ≡ o → arity_faults name.offset count o ≡ []
        → CallKnown p name count
    at_thread None e h = absurd cc
    at_thread (Some t) e h =
        let n = named_at p.threads name.text t e in
        record {
          number = n.number;
          is = n.is 0 ∙ ap Some (omega arith);
          takes = takes_as n.number t n.at (passed t (test_passed (length t.numbers == count) (name.offset, Arity) h));
        }

-- what is given to a hole has no fault
pub given_there : (ts : List Thread) (s : Scope) (before us : List Use) (name : List ℕ) (given : Given)
    → uses_faults ts s before us ≡ [] → use_of us name ≡ Some given → given_faults ts s given ≡ []
given_there ts s before [] name given h e = absurd cc
given_there ts s before (u ∷ us) name given h e =
    let a = none_left (hole_faults u.hole.offset (kind_of s u.hole.text) (use_of before u.hole.text))
    (given_faults ts s u.given ++ uses_faults ts s (before ++ u ∷ []) us) h in
    let d = none_left (given_faults ts s u.given) (uses_faults ts s (before ++ u ∷ []) us) a.1 in
    at_test (bytes_eq u.hole.text name) d.0 (given_there ts s (before ++ u ∷ []) us name given d.1) e
  where
    at_test : (t : Bool) → given_faults ts s u.given ≡ [] → (use_of us name ≡ Some given → given_faults ts s given ≡ [])
        → (if t then Some u.given else use_of us name) ≡ Some given → given_faults ts s given ≡ []
    at_test true g h e = let z : u.given ≡ given = cc in rw (← z) g
    at_test false g h e = h e

-- a hole's slot is there, and its kid is a task of the program
record SlotKnown (p : Program) (env : Env) (i : ℕ) (given : Given) : Type 0 where
  slot : Slot
  is : slot_for p.threads env i given ≡ Some slot
  fits : SlotFits p slot

-- what is given to a hole without fault makes a slot
slot_known : (p : Program) (s : Scope) (env : Env) (i : ℕ) (given : Given) → Covers s env
    → given_faults p.threads s given ≡ [] → SlotKnown p env i given
slot_known p s env i (Sent e) c h =
    let v = expr_known s env e c h in
    record { slot = Filled v.value; is = rw v.is refl; fits = tt }
slot_known p s env i (Spawned name es) c h =
    let n = none_left (call_faults p.threads name (length es)) (exprs_faults s es) h in
    let t = call_known p name (length es) n.0 in
    let vs = exprs_known s env es c n.1 in
    record {
      slot = Awaits (record { hole = i; thread = t.number; arguments = vs.values });
      is = rw (t.is, vs.is) refl;
      fits = rw vs.count t.takes;
    }

-- the slots where a hole stands first, step by step
hole_first : (t : Bool) (o : Option Given) (f : Given
    → Option Slot) (r : Option (List Slot)) (given : Given) (slot : Slot) (slots : List Slot) → t ≡ false
    → o ≡ Some given → f given ≡ Some slot → r ≡ Some slots
    → (if t then None else (o >>= λ g. f g >>= λ x. r >>= λ xs. Some (x ∷ xs))) ≡ Some (slot ∷ slots)
hole_first t o f r given slot slots a b d e = rw (a, b, d, e) refl

-- all slots are there, as many as the arguments
pub record SlotsKnown (p : Program) (env : Env) (uses : List Use) (i : ℕ) (args : List Argument) : Type 0 where
  pub slots : List Slot
  pub is : slots_of p.threads env uses i args ≡ Some slots
  pub fit : SlotsFit p slots
  pub count : length slots ≡ length args

-- a hole without the fault of an unused one is used
pub is_used : (close : ℕ) (o : Option Given) → used_faults close o ≡ [] → Defined o
is_used close None h = absurd cc
is_used close (Some given) h = record { value = given; is = refl }

-- `behind` are the names in scope behind all arguments, where the uses stand
pub slots_known : (p : Program) (behind : Scope) (env : Env) (close : ℕ) (uses : List Use) → Covers behind env
    → uses_faults p.threads behind [] uses ≡ [] → (s : Scope) (i : ℕ) (args : List Argument) → Covers s env
    → arguments_faults s args ≡ [] → unused_faults close uses args ≡ [] → i + length args ≤ 9
    → SlotsKnown p env uses i args
slots_known p behind env close uses b u s i [] c h g le = record { slots = []; is = refl; fit = tt; count = refl }
slots_known p behind env close uses b u s i (argument.Value e ∷ args) c h g le =
    let n = none_left (expr_faults s e) (arguments_faults s args) h in
    let v = expr_known s env e c n.0 in
    let r = slots_known p behind env close uses b u s i args c n.1 g (omega arith) in
    record { slots = Filled v.value ∷ r.slots; is = rw (v.is, r.is) refl; fit = (tt, r.fit); count = ap suc r.count }
slots_known p behind env close uses b u s i (argument.Hole x ∷ args) c h g le =
    let n = none_left (new_faults x.offset (kind_of s x.text)) (arguments_faults (with_name s x.text Waits) args) h in
    let m = none_left (used_faults close (use_of uses x.text)) (unused_faults close uses args) g in
    let given = is_used close (use_of uses x.text) m.0 in
    let slot = slot_known p behind env i given.value b
    (given_there p.threads behind [] uses x.text given.value u given.is) in
    let r = slots_known p behind env close uses b u (with_name s x.text Waits) (i + 1) args
    (covers_hole s env x.text c) n.1 m.1 (omega arith) in
    let few : i ≤ 8 = omega arith in
    let lt : nat_lt 8 i ≡ false = grind (arith, nat_tests) in
    record {
      slots = slot.slot ∷ r.slots;
      is =
          hole_first (nat_lt 8 i) (use_of uses x.text) (slot_for p.threads env i)
          (slots_of p.threads env uses (i + 1) args) given.value slot.slot r.slots lt given.is slot.is r.is;
      fit = (slot.fits, r.fit);
      count = ap suc r.count;
    }

-- holes take no name's number away
pub covers_arguments : (s : Scope) (env : Env) (args : List Argument) → Covers s env
    → Covers (after_arguments s args) env
covers_arguments s env [] c = c
covers_arguments s env (argument.Value e ∷ args) c = covers_arguments s env args c
covers_arguments s env (argument.Hole x ∷ args) c =
    covers_arguments (with_name s x.text Waits) env args (covers_hole s env x.text c)

-- each thread takes at most 8 numbers
pub record Few (p : Program) : Type 0 where
  pub few : (t count : ℕ) → Takes p t count → count ≤ 8

-- the end is reached, and names tasks of the program
pub record EndKnown (p : Program) (o : Option Turn) : Type 0 where
  pub turn : Turn
  pub is : o ≡ Some turn
  pub fits : TurnFits p turn

-- whichever end a condition picks is reached
one_of : (p : Program) (t : Bool) (a b : Option Turn) → EndKnown p a → EndKnown p b → EndKnown p (if t then a else b)
one_of p true a b x y = x
one_of p false a b x y = y

-- what follows lets that have values
behind_lets : (p : Program) (o : Option Env) (f : Env → Option Turn) (env : Env) → o ≡ Some env → EndKnown p (f env)
    → EndKnown p (o >>= f)
behind_lets p o f env e k = rw e k

-- what follows a condition that has a value
behind_value : (p : Program) (o : Option ℤ) (f : ℤ → Option Turn) (v : ℤ) → o ≡ Some v → EndKnown p (f v)
    → EndKnown p (o >>= f)
behind_value p o f v e k = rw e k

-- an end without fault is reached
pub end_known : (p : Program) → Few p → (s : Scope) (env : Env) (close : ℕ) (end : End) → Covers s env
    → end_faults p.threads s close end ≡ [] → EndKnown p (end_turn p.threads env end)
end_known p few s env close (If' e pa lets1 end1 close1 pb lets2 end2 close2) c h =
    let n = none_left (expr_faults s e)
    ((lets_faults s lets1 ++ end_faults p.threads (after_names s lets1) close1 end1)
    ++ (lets_faults s lets2 ++ end_faults p.threads (after_names s lets2) close2 end2)) h in
    let m = none_left (lets_faults s lets1 ++ end_faults p.threads (after_names s lets1) close1 end1)
    (lets_faults s lets2 ++ end_faults p.threads (after_names s lets2) close2 end2) n.1 in
    let x = none_left (lets_faults s lets1) (end_faults p.threads (after_names s lets1) close1 end1) m.0 in
    let y = none_left (lets_faults s lets2) (end_faults p.threads (after_names s lets2) close2 end2) m.1 in
    let v = expr_known s env e c n.0 in
    let l1 = lets_known s env lets1 c x.0 in
    let l2 = lets_known s env lets2 c y.0 in
    let e1 = end_known p few (after_names s lets1) l1.after close1 end1 l1.covers x.1 in
    let e2 = end_known p few (after_names s lets2) l2.after close2 end2 l2.covers y.1 in
    behind_value p (value_of env e) (λ v.
    if int_eq v (pos 0) then (after_lets env lets2 >>= λ inner.
    end_turn p.threads inner end2) else (after_lets env lets1 >>= λ inner. end_turn p.threads inner end1)) v.value
    v.is
    (one_of p (int_eq v.value (pos 0)) (after_lets env lets2 >>= λ inner. end_turn p.threads inner end2)
    (after_lets env lets1 >>= λ inner. end_turn p.threads inner end1)
    (behind_lets p (after_lets env lets2) (λ inner. end_turn p.threads inner end2) l2.after l2.is e2)
    (behind_lets p (after_lets env lets1) (λ inner. end_turn p.threads inner end1) l1.after l1.is e1))
end_known p few s env close (Send k e) c h =
    let n = none_left (own_faults k.offset (kind_of s k.text)) (expr_faults s e) h in
    let v = expr_known s env e c n.1 in
    record { turn = Sends v.value; is = rw v.is refl; fits = tt }
end_known p few s env close (Next name k args uses) c h =
    let n = none_left (call_faults p.threads name (length args))
    (own_faults k.offset (kind_of s k.text)
    ++ (arguments_faults s args ++ (uses_faults p.threads (after_arguments s args) [] uses
    ++ unused_faults close uses args))) h in
    let m = none_left (own_faults k.offset (kind_of s k.text))
    (arguments_faults s args ++ (uses_faults p.threads (after_arguments s args) [] uses
    ++ unused_faults close uses args)) n.1 in
    let x = none_left (arguments_faults s args)
    (uses_faults p.threads (after_arguments s args) [] uses ++ unused_faults close uses args) m.1 in
    let y = none_left (uses_faults p.threads (after_arguments s args) [] uses) (unused_faults close uses args) x.1 in
    let t = call_known p name (length args) n.0 in
    let most = few.few t.number (length args) t.takes in
    let r = slots_known p (after_arguments s args) env close uses (covers_arguments s env args c) y.0 s 1 args c x.0 y.1
    (omega arith) in
    record { turn = Joins t.number r.slots; is = rw (t.is, r.is) refl; fits = (rw r.count t.takes, r.fit) }

-- a block without fault reaches an end
pub block_known : (p : Program) → Few p → (s : Scope) (env : Env) (b : Block) → Covers s env
    → block_faults p.threads s b ≡ [] → EndKnown p (block_turn p.threads env b)
block_known p few s env b c h =
    let n = none_left (lets_faults s b.lets) (end_faults p.threads (after_names s b.lets) b.close b.end) h in
    let l = lets_known s env b.lets c n.0 in
    behind_lets p (after_lets env b.lets) (λ inner. end_turn p.threads inner b.end) l.after l.is
    (end_known p few (after_names s b.lets) l.after b.close b.end l.covers n.1)
