-- A body by places reaches the end that the body by names reaches.
use Rattle.std.proofs.Common.{◌≡◌, ◌∙◌, ℕ, ℤ, ◌+◌, ◌≤◌, pos, zero, suc, refl, sym, ap, arith, Bool, true, false, nat_lt, if◌then◌else◌, List, [], ◌∷◌, ◌++◌, map, append_assoc, IsSomeAnd, Option, Some, None, slice_get, get_or, length, ◌<◌}
use Rattle.std.proofs.lemmas.Bool.Decides.{nat_tests}
use Rattle.std.proofs.lemmas.List.{append-nil, map-append}
use Rattle.std.proofs.lemmas.Option.{slice_get-get_or}
use Rattle.std.specs.Ordering.{int_eq}
use Rattle.std.specs.Str.{bytes_eq}
use Rattle.task_tree.specs.declared.tree.Name.{Name}
use Rattle.task_tree.specs.declared.tree.Expr.{Expr}
use Rattle.task_tree.specs.declared.tree.Expr.TheVariants as expr
use Rattle.task_tree.specs.declared.tree.Let.{Let}
use Rattle.task_tree.specs.declared.tree.Argument.{Argument}
use Rattle.task_tree.specs.declared.tree.Argument.TheVariants.{Value, Hole}
use Rattle.task_tree.specs.declared.tree.Given.{Given}
use Rattle.task_tree.specs.declared.tree.Given.TheVariants.{Sent, Spawned}
use Rattle.task_tree.specs.declared.tree.Use.{Use}
use Rattle.task_tree.specs.declared.tree.Block.{Block}
use Rattle.task_tree.specs.declared.tree.End.{End}
use Rattle.task_tree.specs.declared.tree.End.TheVariants.{If', Send, Next}
use Rattle.task_tree.specs.declared.tree.Thread.{Thread}
use Rattle.task_tree.specs.declared.tree.Program.{Program}
use Rattle.kind_check.specs.declared.turn.Slot.{Slot}
use Rattle.kind_check.specs.declared.turn.Slot.TheVariants.{Filled}
use Rattle.kind_check.specs.declared.turn.Turn.{Turn}
use Rattle.kind_check.specs.declared.code.Code.{Code}
use Rattle.kind_check.specs.declared.code.Code.TheVariants.{Number, Local, Binary'}
use Rattle.kind_check.specs.declared.code.SlotCode.{SlotCode}
use Rattle.kind_check.specs.declared.code.SlotCode.TheVariants as slot
use Rattle.kind_check.specs.declared.code.Leaf.{Leaf}
use Rattle.kind_check.specs.declared.code.Leaf.TheVariants as leaf
use Rattle.kind_check.specs.declared.code.BlockCode.{BlockCode}
use Rattle.kind_check.specs.declared.code.EndCode.{EndCode}
use Rattle.kind_check.specs.declared.code.EndCode.TheVariants as end
use Rattle.kind_check.specs.Value.{Env, number_of, value_of}
use Rattle.kind_check.specs.Turns.{◌>>=◌, values_of, after_lets, use_of, slot_for, slots_of, end_turn, block_turn, bind, thread_turn}
use Rattle.kind_check.specs.Places.{place_of, further}
use Rattle.kind_check.specs.Code.{code_value, code_values, code_lets, code_slot, code_slots, leaf_turn, end_code_turn, code_turn, codes_turn, Follows, IsBody}
use Rattle.kind_check.specs.Resolves.{after, names_of, ResolvesExpr, ResolvesExprs, ResolvesLets, ResolvesGiven, ResolvesSlots, ResolvesNext, ResolvesEnd, ResolvesBlock, ResolvesThread, ResolvesThreads}

abbrev name_in : List ℕ × ℤ → List ℕ
name_in b = b.0

abbrev number_in : List ℕ × ℤ → ℤ
number_in b = b.1

-- an environment with these names and these numbers
pub record Fits (env : Env) (names : List (List ℕ)) (vs : List ℤ) : Type 0 where
  pub names_are : map name_in env ≡ names
  pub numbers_are : map number_in env ≡ vs

fits_more : (env : Env) (names : List (List ℕ)) (vs : List ℤ) (x : List ℕ) (v : ℤ) → Fits env names vs
    → Fits (env ++ (x, v) ∷ []) (names ++ x ∷ []) (vs ++ v ∷ [])
fits_more env names vs x v f = record {
  names_are = rw (map-append, f.names_are) refl;
  numbers_are = rw (map-append, f.numbers_are) refl;
}

-- what stands at a place, if there is one
abbrev number_at : List ℤ → Option ℕ → Option ℤ
number_at vs None = None
number_at vs (Some i) = slice_get vs i

number_placed : (env : Env) (x : List ℕ)
    → number_of env x ≡ number_at (map number_in env) (place_of (map name_in env) x)
number_placed [] x = refl
number_placed (b ∷ env) x = at_test (bytes_eq b.0 x) (place_of (map name_in env) x) (number_placed env x)
  where
    at_test : (t : Bool) (o : Option ℕ) → number_of env x ≡ number_at (map number_in env) o
        → (if t then Some b.1 else number_of env x)
        ≡ number_at (b.1 ∷ map number_in env) (if t then Some 0 else further o)
    at_test true o h = refl
    at_test false None h = h
    at_test false (Some j) h = h

placed : (env : Env) (names : List (List ℕ)) (vs : List ℤ) (x : List ℕ) → Fits env names vs
    → number_of env x ≡ number_at vs (place_of names x)
placed env names vs x f = rw (f.names_are, f.numbers_are) at (number_placed env x)

expr_same : (env : Env) (names : List (List ℕ)) (vs : List ℤ) (e : Expr) (c : Code) → Fits env names vs
    → ResolvesExpr names e c → code_value vs c ≡ value_of env e
expr_same env names vs (expr.Number n) (Number m) f r = ap (λ (x : ℤ). Some x) (sym r)
expr_same env names vs (expr.Number n) (Local i) f r = absurd r
expr_same env names vs (expr.Number n) (Binary' op p a q b) f r = absurd r
expr_same env names vs (expr.Variable x) (Number m) f r = absurd r
expr_same env names vs (expr.Variable x) (Local i) f r = sym (placed env names vs x.text f ∙ ap (number_at vs) r)
expr_same env names vs (expr.Variable x) (Binary' op p a q b) f r = absurd r
expr_same env names vs (expr.Binary' op p a q b) (Number m) f r = absurd r
expr_same env names vs (expr.Binary' op p a q b) (Local i) f r = absurd r
expr_same env names vs (expr.Binary' op p a q b) (Binary' op' p' x q' y) f r =
    rw (expr_same env names vs a x f r.1, expr_same env names vs b y f r.2, r.0) refl

exprs_same : (env : Env) (names : List (List ℕ)) (vs : List ℤ) (es : List Expr) (cs : List Code) → Fits env names vs
    → ResolvesExprs names es cs → code_values vs cs ≡ values_of env es
exprs_same env names vs [] [] f r = refl
exprs_same env names vs [] (c ∷ cs) f r = absurd r
exprs_same env names vs (e ∷ es) [] f r = absurd r
exprs_same env names vs (e ∷ es) (c ∷ cs) f r =
    rw (expr_same env names vs e c f r.0, exprs_same env names vs es cs f r.1) refl

given_same : (ts : List Thread) (env : Env) (names : List (List ℕ)) (vs : List ℤ) (i : ℕ) (g : Given) (s : SlotCode)
    → Fits env names vs → ResolvesGiven ts names i g s → code_slot vs s ≡ slot_for ts env i g
given_same ts env names vs i (Sent e) (slot.Given c) f r = rw (expr_same env names vs e c f r) refl
given_same ts env names vs i (Sent e) (slot.Spawns h t cs) f r = absurd r
given_same ts env names vs i (Spawned name es) (slot.Given c) f r = absurd r
given_same ts env names vs i (Spawned name es) (slot.Spawns h t cs) f r =
    rw (r.1, exprs_same env names vs es cs f r.2, r.0) refl

one_of_eight : (i : ℕ) → i ≤ 8 → nat_lt 8 i ≡ false
one_of_eight i h = grind (arith, nat_tests)

-- the slots behind the first one, if that is there
abbrev slots_from : Option Slot → Option (List Slot) → Option (List Slot)
slots_from s rest = s >>= λ (slot : Slot). rest >>= λ (slots : List Slot). Some (slot ∷ slots)

slots_same : (ts : List Thread) (env : Env) (names : List (List ℕ)) (vs : List ℤ) (us : List Use) (i : ℕ)
    (args : List Argument) (cs : List SlotCode) → Fits env names vs → ResolvesSlots ts names us i args cs
    → code_slots vs cs ≡ slots_of ts env us i args
slots_same ts env names vs us i [] [] f r = refl
slots_same ts env names vs us i [] (c ∷ cs) f r = absurd r
slots_same ts env names vs us i (a ∷ args) [] f r = absurd r
slots_same ts env names vs us i (Value e ∷ args) (c ∷ cs) f r =
    rw (given_same ts env names vs i (Sent e) c f r.0, slots_same ts env names vs us i args cs f r.1)
    (through (value_of env e) (slots_of ts env us i args))
  where
    through : (o : Option ℤ) (rest : Option (List Slot))
        → slots_from (o >>= λ (v : ℤ). Some (Filled v)) rest
        ≡ (o >>= λ (v : ℤ). rest >>= λ (slots : List Slot). Some (Filled v ∷ slots))
    through None rest = refl
    through (Some v) rest = refl
slots_same ts env names vs us i (Hole x ∷ args) (c ∷ cs) f r =
    let lt : nat_lt 8 i ≡ false = one_of_eight i r.0.0 in
    rw (lt, slots_same ts env names vs us (i + 1) args cs f r.1)
    (at_use (use_of us x.text) (slots_of ts env us (i + 1) args) r.0.1)
  where
    at_use : (o : Option Given) (rest : Option (List Slot)) → IsSomeAnd o (λ given. ResolvesGiven ts names i given c)
        → slots_from (code_slot vs c) rest ≡ (o >>= λ (g : Given). slots_from (slot_for ts env i g) rest)
    at_use None rest h = absurd h
    at_use (Some g) rest h = rw (given_same ts env names vs i g c f h) refl

lets_then : (env : Env) (names : List (List ℕ)) (vs : List ℤ) (ls : List Let) (cs : List Code) (k : List ℤ
    → Option Turn) (k' : Env → Option Turn) → Fits env names vs → ResolvesLets names ls cs
    → ((inner : Env) (numbers : List ℤ) → Fits inner (after names ls) numbers → k numbers ≡ k' inner)
    → (code_lets vs cs >>= k) ≡ (after_lets env ls >>= k')
lets_then env names vs [] [] k k' f r h =
    h env vs (record { names_are = f.names_are ∙ sym (append-nil names); numbers_are = f.numbers_are })
lets_then env names vs [] (c ∷ cs) k k' f r h = absurd r
lets_then env names vs (l ∷ ls) [] k k' f r h = absurd r
lets_then env names vs (l ∷ ls) (c ∷ cs) k k' f r h =
    rw (expr_same env names vs l.value c f r.0)
    (at_value (value_of env l.value) (λ v.
    lets_then (env ++ (l.name.text, v) ∷ []) (names ++ l.name.text ∷ []) (vs ++ v ∷ []) ls cs k k'
    (fits_more env names vs l.name.text v f) r.1 further_in))
  where
    further_in : (inner : Env) (numbers : List ℤ) → Fits inner (after (names ++ l.name.text ∷ []) ls) numbers
        → k numbers ≡ k' inner
    further_in inner numbers g = h inner numbers
        (record {
          names_are = g.names_are ∙ append_assoc names (l.name.text ∷ []) (map (λ (x : Let). x.name.text) ls);
          numbers_are = g.numbers_are;
        })

    at_value : (o : Option ℤ) → ((v : ℤ)
        → (code_lets (vs ++ v ∷ []) cs >>= k) ≡ (after_lets (env ++ (l.name.text, v) ∷ []) ls >>= k'))
        → ((o >>= λ (v : ℤ). code_lets (vs ++ v ∷ []) cs) >>= k)
        ≡ ((o >>= λ (v : ℤ). after_lets (env ++ (l.name.text, v) ∷ []) ls) >>= k')
    at_value None each = refl
    at_value (Some v) each = each v

next_same : (ts : List Thread) (env : Env) (names : List (List ℕ)) (vs : List ℤ) (name k : Name) (args : List Argument)
    (us : List Use) (l : Leaf) → Fits env names vs → ResolvesNext ts names name.text args us l
    → leaf_turn vs l ≡ end_turn ts env (Next name k args us)
next_same ts env names vs name k args us (leaf.Sends c) f r = absurd r
next_same ts env names vs name k args us (leaf.Joins t cs) f r =
    rw (r.0, slots_same ts env names vs us 1 args cs f r.1) refl

either : (t : Bool) (x y x' y' : Option Turn) → x ≡ x' → y ≡ y' → (if t then x else y) ≡ (if t then x' else y')
either true x y x' y' e f = e
either false x y x' y' e f = f

at_value : (o : Option ℤ) (x y x' y' : Option Turn) → x ≡ x' → y ≡ y'
    → (o >>= λ (v : ℤ). if int_eq v (pos 0) then x else y) ≡ (o >>= λ (v : ℤ). if int_eq v (pos 0) then x' else y')
at_value None x y x' y' e f = refl
at_value (Some v) x y x' y' e f = either (int_eq v (pos 0)) x y x' y' e f

end_same : (ts : List Thread) (env : Env) (names : List (List ℕ)) (vs : List ℤ) (e : End) (c : EndCode)
    → Fits env names vs → ResolvesEnd ts names e c → end_code_turn vs c ≡ end_turn ts env e
end_same ts env names vs (If' x p lets1 end1 close1 q lets2 end2 close2) (end.If' c p' codes1 to1 q' codes2 to2) f r =
    let first : (code_lets vs codes1 >>= λ (inner : List ℤ). end_code_turn inner to1)
    ≡ (after_lets env lets1 >>= λ (inner : Env). end_turn ts inner end1) =
    lets_then env names vs lets1 codes1 (λ inner. end_code_turn inner to1) (λ inner. end_turn ts inner end1) f r.1.0
    (λ inner numbers g. end_same ts inner (after names lets1) numbers end1 to1 g r.1.1) in
    let second : (code_lets vs codes2 >>= λ (inner : List ℤ). end_code_turn inner to2)
    ≡ (after_lets env lets2 >>= λ (inner : Env). end_turn ts inner end2) =
    lets_then env names vs lets2 codes2 (λ inner. end_code_turn inner to2) (λ inner. end_turn ts inner end2) f r.2.0
    (λ inner numbers g. end_same ts inner (after names lets2) numbers end2 to2 g r.2.1) in
    rw (expr_same env names vs x c f r.0) (at_value (value_of env x) _ _ _ _ second first)
end_same ts env names vs (If' x p lets1 end1 close1 q lets2 end2 close2) (end.Leaf l) f r = absurd r
end_same ts env names vs (Send k e) (end.If' c p' codes1 to1 q' codes2 to2) f r = absurd r
end_same ts env names vs (Send k e) (end.Leaf (leaf.Sends c)) f r = rw (expr_same env names vs e c f r) refl
end_same ts env names vs (Send k e) (end.Leaf (leaf.Joins t cs)) f r = absurd r
end_same ts env names vs (Next name k args us) (end.If' c p' codes1 to1 q' codes2 to2) f r = absurd r
end_same ts env names vs (Next name k args us) (end.Leaf l) f r = next_same ts env names vs name k args us l f r

block_same : (ts : List Thread) (env : Env) (names : List (List ℕ)) (vs : List ℤ) (b : Block) (c : BlockCode)
    → Fits env names vs → ResolvesBlock ts names b c → code_turn vs c ≡ block_turn ts env b
block_same ts env names vs b c f r =
    lets_then env names vs b.lets c.lets (λ inner. end_code_turn inner c.end) (λ inner. end_turn ts inner b.end) f r.0
    (λ inner numbers g. end_same ts inner (after names b.lets) numbers b.end c.end g r.1)

-- parameters that are bound to numbers
bound_fits : (ns : List Name) (vs : List ℤ) (env : Env) → bind ns vs ≡ Some env → Fits env (names_of ns) vs
bound_fits [] [] env e = let z : env ≡ [] = cc in rw z (record { names_are = refl; numbers_are = refl })
bound_fits [] (v ∷ vs) env e = absurd cc
bound_fits (n ∷ ns) [] env e = absurd cc
bound_fits (n ∷ ns) (v ∷ vs) env e = at_rest (bind ns vs) refl (λ rest is. bound_fits ns vs rest is) e
  where
    at_rest : (o : Option Env) → bind ns vs ≡ o → ((rest : Env) → bind ns vs ≡ Some rest → Fits rest (names_of ns) vs)
        → (o >>= λ (rest : Env). Some ((n.text, v) ∷ rest)) ≡ Some env → Fits env (names_of (n ∷ ns)) (v ∷ vs)
    at_rest None is each h = absurd cc
    at_rest (Some rest) is each h =
        let z : env ≡ (n.text, v) ∷ rest = cc in
        let f = each rest is in
        rw z (record {
          names_are = ap (λ (x : List (List ℕ)). n.text ∷ x) f.names_are;
          numbers_are = ap (λ (x : List ℤ). v ∷ x) f.numbers_are;
        })

thread_same : (ts : List Thread) (t : Thread) (c : BlockCode) (vs : List ℤ) (turn : Turn) → ResolvesThread ts t c
    → thread_turn ts t vs ≡ Some turn → code_turn vs c ≡ Some turn
thread_same ts t c vs turn r e = at_env (bind t.numbers vs) refl e
  where
    at_env : (o : Option Env) → bind t.numbers vs ≡ o → (o >>= λ (env : Env). block_turn ts env t.body) ≡ Some turn
        → code_turn vs c ≡ Some turn
    at_env None is h = absurd cc
    at_env (Some env) is h = block_same ts env (names_of t.numbers) vs t.body c (bound_fits t.numbers vs env is) r ∙ h

threads_same : (ts rest : List Thread) (cs : List BlockCode) (t : ℕ) (vs : List ℤ) (turn : Turn)
    → ResolvesThreads ts rest cs → (slice_get rest t >>= λ (thread : Thread). thread_turn ts thread vs) ≡ Some turn
    → codes_turn cs t vs ≡ Some turn
threads_same ts [] [] t vs turn r e = absurd cc
threads_same ts [] (c ∷ cs) t vs turn r e = absurd r
threads_same ts (x ∷ rest) [] t vs turn r e = absurd r
threads_same ts (x ∷ rest) (c ∷ cs) zero vs turn r e = thread_same ts x c vs turn r.0 e
threads_same ts (x ∷ rest) (c ∷ cs) (suc t) vs turn r e = threads_same ts rest cs t vs turn r.1 e

as_many : (ts rest : List Thread) (cs : List BlockCode) → ResolvesThreads ts rest cs → length cs ≡ length rest
as_many ts [] [] r = refl
as_many ts [] (c ∷ cs) r = absurd r
as_many ts (x ∷ rest) [] r = absurd r
as_many ts (x ∷ rest) (c ∷ cs) r = ap suc (as_many ts rest cs r.1)

-- the bodies of a program by places follow the program
pub resolves_follows : (p : Program) (cs : List BlockCode) → ResolvesThreads p.threads p.threads cs → Follows p cs
resolves_follows p cs r = record {
  count = as_many p.threads p.threads cs r;
  each = λ t numbers turn e. threads_same p.threads p.threads cs t numbers turn r e;
}

-- the body at the number of a thread is its body
pub body_at : (p : Program) (cs : List BlockCode) (t : ℕ) (d : BlockCode) → Follows p cs → t < length cs
    → IsBody p t (get_or cs t d)
body_at p cs t d f lt = record { each = λ numbers turn e. rw (slice_get-get_or cs t d lt) at (f.each t numbers turn e) }
