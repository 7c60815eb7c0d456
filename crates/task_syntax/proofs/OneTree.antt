-- A text has one tree: two readings of a part from one place end at one place, and are equal.
use Rattle.std.proofs.Common.{◌≡◌, ℕ, List, [], ◌∷◌, refl, sym}
use Rattle.task_tokens.specs.declared.kinds.Word.TheVariants as word
use Rattle.task_tokens.specs.declared.kinds.Sign.TheVariants as sign
use Rattle.task_tokens.specs.declared.kinds.TokenKind.{TokenKind}
use Rattle.task_tokens.specs.declared.kinds.TokenKind.TheVariants as kind
use Rattle.task_tokens.specs.declared.kinds.Token.{Token}
use Rattle.task_tree.specs.declared.tree.Name.{Name}
use Rattle.task_tree.specs.declared.tree.Expr.{Expr}
use Rattle.task_tree.specs.declared.tree.Let.{Let}
use Rattle.task_tree.specs.declared.tree.Argument.{Argument}
use Rattle.task_tree.specs.declared.tree.Use.{Use}
use Rattle.task_tree.specs.declared.tree.Block.{Block}
use Rattle.task_tree.specs.declared.tree.Thread.{Thread}
use Rattle.task_tree.specs.declared.tree.Program.{Program}
use Rattle.task_syntax.specs.Grammar.{BeginsAt, IsMark, IsName, IsExpr, Many, none, more, Further, further, IsLet, bound, IsArgument, hole, value, IsSend, send, IsSpawn, spawn, IsUse, sent, spawned, IsNext, next}
use Rattle.task_syntax.specs.Grammar.{IsBlock, ends_in_if, ends_in_send, ends_in_next, IsThread, thread, ReadsAsProgram}
use Rattle.task_syntax.specs.Refusals.{Stands, stands, Stops}
use Rattle.task_syntax.specs.Meeting.{UseStands}
use Rattle.task_tree.specs.Shapes.{EachSame}
use Rattle.task_tree.specs.Equal.{EqualExpr, EqualLet, EqualArgument, EqualUse, EqualBlock, EqualThread, EqualProgram}
use Rattle.task_syntax.proofs.Reading.{begins_at}
use Rattle.task_syntax.proofs.Scanning.{same_first, begins_same, stops_mark}
use Rattle.task_syntax.proofs.Readings.{stops_further, no_question, let_stands, send_begins, use_begins, no_use, thread_stands, block_stops}
use Rattle.task_syntax.proofs.OneExpr.{Agree, one_kind, one_name, one_expr}

-- two readings of an item agree
abbrev Agrees : {A : Type 0} → (List Token → List Token → A → Type 0) → (A → A → Type 0) → Type 0
Agrees {A = A} R Equal = (from grom to uo : List Token) (x y : A) → R from to x → R grom uo y → from ≡ grom
    → Agree Equal to uo x y

-- two readings of an item agree where no operator follows
abbrev AgreesStopped : {A : Type 0} → (List Token → List Token → A → Type 0) → (A → A → Type 0) → Type 0
AgreesStopped {A = A} R Equal =
    (from grom to uo : List Token) (x y : A) → R from to x → R grom uo y → Stops 0 to → Stops 0 uo → from ≡ grom
    → Agree Equal to uo x y

-- where an item is read F holds
abbrev BeginsBy : {A : Type 0} → (List Token → Type 0) → (List Token → List Token → A → Type 0) → Type 0
BeginsBy {A = A} F R = (from to : List Token) (x : A) → R from to x → F from

-- many items, behind which no further one begins
one_many :
    {A : Type 0} {R : List Token → List Token → A → Type 0} {F : List Token → Type 0} {Equal : A → A → Type 0}
    {from grom to uo : List Token} {xs ys : List A}
    → BeginsBy F R → Agrees R Equal → Many R from to xs → Many R grom uo ys → (F to → ⊥) → (F uo → ⊥) → from ≡ grom
    → Agree (EachSame Equal) to uo xs ys
one_many begins one none none f g e = record { rests = e; equal = tt }
one_many begins one none (more s ss) f g e = absurd (f (rw e (begins _ _ _ s)))
one_many begins one (more r rs) none f g e = absurd (g (rw (← e) (begins _ _ _ r)))
one_many begins one (more r rs) (more s ss) f g e =
    let x = one _ _ _ _ _ _ r s e in
    let xs = one_many begins one rs ss f g x.rests in
    record { rests = xs.rests; equal = (x.equal, xs.equal) }

one_comma :
    {A : Type 0} {R : List Token → List Token → A → Type 0} {Equal : A → A
    → Type 0} {from grom to uo : List Token} {x y : A}
    → AgreesStopped R Equal → Further R from to x → Further R grom uo y → Stops 0 to → Stops 0 uo → from ≡ grom
    → Agree Equal to uo x y
one_comma one (further b r) (further c q) s t e = one _ _ _ _ _ _ r q s t (begins_same b c e)

-- a closing parenthesis is no comma
no_comma : {A : Type 0} {R : List Token → List Token → A → Type 0} {from grom to uo : List Token} {x : A}
    → IsMark sign.Close from to → Further R grom uo x → from ≡ grom → ⊥
no_comma b (further c r) e = let k = one_kind b c e in cc

-- items behind commas, up to a closing parenthesis
one_further :
    {A : Type 0} {R : List Token → List Token → A → Type 0} {Equal : A → A
    → Type 0} {from grom to uo m n : List Token} {xs ys : List A}
    → AgreesStopped R Equal → Many (Further R) from to xs → Many (Further R) grom uo ys → IsMark sign.Close to m
    → IsMark sign.Close uo n → from ≡ grom
    → Agree (EachSame Equal) to uo xs ys
one_further one none none b c e = record { rests = e; equal = tt }
one_further one none (more s ss) b c e = absurd (no_comma b s e)
one_further one (more r rs) none b c e = absurd (no_comma c r (sym e))
one_further one (more r rs) (more s ss) b c e =
    let x = one_comma one r s (stops_further rs b) (stops_further ss c) e in
    let xs = one_further one rs ss b c x.rests in
    record { rests = xs.rests; equal = (x.equal, xs.equal) }

one_let : {from grom to uo : List Token} {x y : Let} → IsLet from to x → IsLet grom uo y → from ≡ grom
    → Agree EqualLet to uo x y
one_let (bound w n a v s) (bound w2 n2 a2 v2 s2) e =
    let x = one_name n n2 (begins_same w w2 e) in
    let i = one_expr v v2 (stops_mark s) (stops_mark s2) (begins_same a a2 x.rests) in
    record { rests = begins_same s s2 i.rests; equal = (x.equal, i.equal) }

one_lets :
    {from grom to uo : List Token} {xs ys : List Let}
    → Many IsLet from to xs → Many IsLet grom uo ys → (Stands (kind.Keyword word.Let) to → ⊥)
    → (Stands (kind.Keyword word.Let) uo → ⊥) → from ≡ grom
    → Agree (EachSame EqualLet) to uo xs ys
one_lets = one_many (λ from to x r. let_stands r) (λ from grom to uo x y r s e. one_let r s e)

one_argument : {from grom to uo : List Token} {x y : Argument} → IsArgument from to x → IsArgument grom uo y
    → Stops 0 to → Stops 0 uo → from ≡ grom → Agree EqualArgument to uo x y
one_argument (hole q n) (hole p m) s t e = let x =
    one_name n m (begins_same q p e) in record { rests = x.rests; equal = x.equal }
one_argument (hole q n) (value v) s t e = absurd (no_question v (rw (← e) (stands q)))
one_argument (value v) (hole q n) s t e = absurd (no_question v (rw e (stands q)))
one_argument (value v) (value w) s t e = let x = one_expr v w s t e in record { rests = x.rests; equal = x.equal }

values_agree : AgreesStopped IsExpr EqualExpr
values_agree from grom to uo x y r q s t e = one_expr r q s t e

arguments_agree : AgreesStopped IsArgument EqualArgument
arguments_agree from grom to uo x y r q s t e = one_argument r q s t e

names_agree : AgreesStopped IsName ◌≡◌
names_agree from grom to uo x y r q s t e = one_name r q e

-- names that are the same one by one are the same
same_names : (xs ys : List Name) → EachSame ◌≡◌ xs ys → xs ≡ ys
same_names [] [] s = refl
same_names [] (y ∷ ys) s = absurd s
same_names (x ∷ xs) [] s = absurd s
same_names (x ∷ xs) (y ∷ ys) s = let e = same_names xs ys s.1 in let f = s.0 in cc

-- `send_argument`, its hole or continuation and its value
record OneSend (to uo : List Token) (k l : Name) (x y : Expr) : Type 0 where
  rests : to ≡ uo
  names : k ≡ l
  values : EqualExpr x y

one_send : {from grom to uo : List Token} {k l : Name} {x y : Expr} → IsSend from to k x → IsSend grom uo l y
    → from ≡ grom → OneSend to uo k l x y
one_send (send w o n c v d s) (send w2 o2 n2 c2 v2 d2 s2) e =
    let k = one_name n n2 (begins_same o o2 (begins_same w w2 e)) in
    let i = one_expr v v2 (stops_mark d) (stops_mark d2) (begins_same c c2 k.rests) in
    record { rests = begins_same s s2 (begins_same d d2 i.rests); names = k.equal; values = i.equal }

-- a thread that is called: its name, the first name in parentheses, and what follows there
record OneCall {A : Type 0} (Equal : A → A
    → Type 0) (to uo : List Token) (t u k l : Name) (xs ys : List A) : Type 0 where
  rests : to ≡ uo
  threads : t ≡ u
  names : k ≡ l
  items : EachSame Equal xs ys

one_spawn : {from grom to uo : List Token} {t u k l : Name} {xs ys : List Expr} → IsSpawn from to t k xs
    → IsSpawn grom uo u l ys → from ≡ grom → OneCall EqualExpr to uo t u k l xs ys
one_spawn (spawn w t o k xs d s) (spawn w2 u o2 l ys d2 s2) e =
    let i = one_name t u (begins_same w w2 e) in
    let j = one_name k l (begins_same o o2 i.rests) in
    let r = one_further values_agree xs ys d d2 j.rests in
    record { rests = begins_same s s2 (begins_same d d2 r.rests); threads = i.equal; names = j.equal; items = r.equal }

one_next : {from grom to uo : List Token} {t u k l : Name} {xs ys : List Argument} → IsNext from to t k xs
    → IsNext grom uo u l ys → from ≡ grom → OneCall EqualArgument to uo t u k l xs ys
one_next (next w t o k xs d s) (next w2 u o2 l ys d2 s2) e =
    let i = one_name t u (begins_same w w2 e) in
    let j = one_name k l (begins_same o o2 i.rests) in
    let r = one_further arguments_agree xs ys d d2 j.rests in
    record { rests = begins_same s s2 (begins_same d d2 r.rests); threads = i.equal; names = j.equal; items = r.equal }

-- a statement begins with one word
spawn_begins : {from to : List Token} {t k : Name} {xs : List Expr} → IsSpawn from to t k xs
    → Stands (kind.Keyword word.Spawn) from
spawn_begins (spawn w t o k xs d s) = stands w

next_begins : {from to : List Token} {t k : Name} {xs : List Argument} → IsNext from to t k xs
    → Stands (kind.Keyword word.SpawnNext) from
next_begins (next w t o k xs d s) = stands w

apart : {k j : TokenKind} {from grom : List Token} → Stands k from → Stands j grom → (k ≡ j → ⊥) → from ≡ grom → ⊥
apart (stands b) (stands c) n e = n (one_kind b c e)

one_use : {from grom to uo : List Token} {x y : Use} → IsUse from to x → IsUse grom uo y → from ≡ grom
    → Agree EqualUse to uo x y
one_use (sent r) (sent s) e = let x = one_send r s e in record { rests = x.rests; equal = (x.names, x.values) }
one_use (sent r) (spawned s) e = absurd (apart (send_begins r) (spawn_begins s) (λ k. cc) e)
one_use (spawned r) (sent s) e = absurd (apart (spawn_begins r) (send_begins s) (λ k. cc) e)
one_use (spawned r) (spawned s) e = let x =
    one_spawn r s e in record { rests = x.rests; equal = (x.names, (x.threads, x.items)) }

one_uses :
    {from grom to uo : List Token} {xs ys : List Use}
    → Many IsUse from to xs → Many IsUse grom uo ys → (UseStands to → ⊥) → (UseStands uo → ⊥) → from ≡ grom
    → Agree (EachSame EqualUse) to uo xs ys
one_uses = one_many (λ from to x r. use_begins r) (λ from grom to uo x y r s e. one_use r s e)

-- where one word stands, no `let` stands
no_let : {k : TokenKind} {from : List Token} → Stands k from → (k ≡ kind.Keyword word.Let → ⊥)
    → Stands (kind.Keyword word.Let) from → ⊥
no_let s n l = apart s l n refl

-- behind `let`s not two words stand
ends_apart :
    {k j : TokenKind} {from grom to uo : List Token} {xs ys : List Let}
    → Many IsLet from to xs → Many IsLet grom uo ys → Stands k to → Stands j uo → (k ≡ kind.Keyword word.Let → ⊥)
    → (j ≡ kind.Keyword word.Let → ⊥) → (k ≡ j → ⊥) → from ≡ grom
    → ⊥
ends_apart ls ms s t n m d e = apart s t d (one_lets ls ms (no_let s n) (no_let t m) e).rests

one_block : {deep meep : ℕ} {from grom to uo : List Token} {x y : Block} → IsBlock deep from to x
    → IsBlock meep grom uo y → from ≡ grom → Agree EqualBlock to uo x y
one_block (ends_in_if d o ls i v yb w nb c) (ends_in_if d2 o2 ls2 i2 v2 yb2 w2 nb2 c2) e =
    let l = one_lets ls ls2 (no_let (stands i) (λ k. cc)) (no_let (stands i2) (λ k. cc)) (begins_same o o2 e) in
    let x = one_expr v v2 (block_stops yb) (block_stops yb2) (begins_same i i2 l.rests) in
    let y = one_block yb yb2 x.rests in
    let n = one_block nb nb2 (begins_same w w2 y.rests) in
    let s = same_first c c2 n.rests in
    record { rests = s.rests; equal = (l.equal, (x.equal, y.equal, n.equal), s.places) }
one_block (ends_in_if d o ls i v yb w nb c) (ends_in_send d2 o2 ls2 s2 c2) e =
    absurd (ends_apart ls ls2 (stands i) (send_begins s2) (λ k. cc) (λ k. cc) (λ k. cc) (begins_same o o2 e))
one_block (ends_in_if d o ls i v yb w nb c) (ends_in_next d2 o2 ls2 n2 us2 c2) e =
    absurd (ends_apart ls ls2 (stands i) (next_begins n2) (λ k. cc) (λ k. cc) (λ k. cc) (begins_same o o2 e))
one_block (ends_in_send d o ls s c) (ends_in_if d2 o2 ls2 i2 v2 yb2 w2 nb2 c2) e =
    absurd (ends_apart ls ls2 (send_begins s) (stands i2) (λ k. cc) (λ k. cc) (λ k. cc) (begins_same o o2 e))
one_block (ends_in_send d o ls s c) (ends_in_send d2 o2 ls2 s2 c2) e =
    let l = one_lets ls ls2 (no_let (send_begins s) (λ k. cc)) (no_let (send_begins s2) (λ k. cc))
    (begins_same o o2 e) in
    let x = one_send s s2 l.rests in
    let t = same_first c c2 x.rests in
    record { rests = t.rests; equal = (l.equal, (x.names, x.values), t.places) }
one_block (ends_in_send d o ls s c) (ends_in_next d2 o2 ls2 n2 us2 c2) e =
    absurd (ends_apart ls ls2 (send_begins s) (next_begins n2) (λ k. cc) (λ k. cc) (λ k. cc) (begins_same o o2 e))
one_block (ends_in_next d o ls n us c) (ends_in_if d2 o2 ls2 i2 v2 yb2 w2 nb2 c2) e =
    absurd (ends_apart ls ls2 (next_begins n) (stands i2) (λ k. cc) (λ k. cc) (λ k. cc) (begins_same o o2 e))
one_block (ends_in_next d o ls n us c) (ends_in_send d2 o2 ls2 s2 c2) e =
    absurd (ends_apart ls ls2 (next_begins n) (send_begins s2) (λ k. cc) (λ k. cc) (λ k. cc) (begins_same o o2 e))
one_block (ends_in_next d o ls n us c) (ends_in_next d2 o2 ls2 n2 us2 c2) e =
    let l = one_lets ls ls2 (no_let (next_begins n) (λ k. cc)) (no_let (next_begins n2) (λ k. cc))
    (begins_same o o2 e) in
    let x = one_next n n2 l.rests in
    let u = one_uses us us2 (no_use (begins_at c)) (no_use (begins_at c2)) x.rests in
    let t = same_first c c2 u.rests in
    record { rests = t.rests; equal = (l.equal, (x.threads, x.names, x.items, u.equal), t.places) }

one_thread : {from grom to uo : List Token} {x y : Thread} → IsThread from to x → IsThread grom uo y → from ≡ grom
    → Agree EqualThread to uo x y
one_thread (thread w t o k ns d b) (thread w2 u o2 l ms d2 b2) e =
    let i = one_name t u (begins_same w w2 e) in
    let j = one_name k l (begins_same o o2 i.rests) in
    let r = one_further names_agree ns ms d d2 j.rests in
    let x = one_block b b2 (begins_same d d2 r.rests) in
    record { rests = x.rests; equal = (i.equal, j.equal, same_names _ _ r.equal, x.equal) }

-- where the tokens end, no thread begins
no_thread : {at : ℕ} {from to : List Token} → BeginsAt kind.End at from to → Stands (kind.Keyword word.Thread) from → ⊥
no_thread b t = apart (stands (begins_at b)) t (λ k. cc) refl

pub one_program : (text : List ℕ) (p q : Program) → ReadsAsProgram text p → ReadsAsProgram text q → EqualProgram p q
one_program text p q r s =
    let a = r.program in
    let b = s.program in
    let ts = one_many (λ from to x t. thread_stands t)
    (λ from grom to uo x y t u e. one_thread t u e) a.threads b.threads (no_thread a.end) (no_thread b.end) refl in
    (ts.equal, (same_first a.end b.end ts.rests).places)
