-- Each part of the grammar is read up to one place, or meets one refusal.
use Rattle.std.proofs.Common.{◌≡◌, ℕ, List, Some, zero, suc, refl, ap, sym, ◌∙◌, arith}
use Rattle.task_tokens.specs.declared.kinds.Word.TheVariants as word
use Rattle.task_tokens.specs.declared.kinds.Sign.TheVariants as sign
use Rattle.task_tokens.specs.declared.kinds.TokenKind.{TokenKind}
use Rattle.task_tokens.specs.declared.kinds.TokenKind.TheVariants as kind
use Rattle.task_tokens.specs.declared.kinds.Token.{Token}
use Rattle.task_syntax.specs.declared.error.ParseError.{ParseError}
use Rattle.task_syntax.specs.Grammar.{Begins}
use Rattle.task_syntax.specs.Refusals.{Misses, first_refusal, name_refusal}
use Rattle.task_syntax.specs.Meeting.{MeetsExpr, Part, token, ReadsName, named, a_name, ReadsValue, valued, a_value, ReadsBoth, both, MeetsBoth, here, behind, ◌▸◌, ReadsEither, one, other, MeetsEither, in_one, in_other, ReadsEach, done, again, MeetsEach, now, later, further, let_part, argument_part, send_part, uses_part, end_part, MeetsTooDeep, no_brace, brace, block_part, thread_part, ReadsEnd, ended, MissesEnd, last_part, program_part}
use Rattle.task_syntax.proofs.Reading.{begins_at}
use Rattle.task_syntax.proofs.Scanning.{begins_same, same_first, finish, climbs, met_scan, same_scan}

-- what is read ends at one place, what is met is one refusal, and nothing is both read and refused
pub record Exact (R : List Token → List Token → Type 0) (M : List Token → ParseError → Type 0) : Type 0 where
  pub one_end : (from a b : List Token) → R from a → R from b → a ≡ b
  pub one_error : (from : List Token) (e f : ParseError) → M from e → M from f → e ≡ f
  pub not_both : (from a : List Token) (e : ParseError) → R from a → M from e → ⊥

abbrev pub IsExact : Part → Type 0
IsExact p = Exact p.reads p.meets

token_exact : (k : TokenKind) → Exact (Begins k) (Misses k)
token_exact k = record {
  one_end = λ from a b r s. begins_same r s refl;
  one_error = λ from e f m n. m.is ∙ sym n.is;
  not_both = λ from a e r m. m.lacks.lacks a r;
}

name_end : {from a b : List Token} → ReadsName from a → ReadsName from b → a ≡ b
name_end (named x) (named y) = (same_first x y refl).rests

name_not : {from a : List Token} {e : ParseError} → ReadsName from a → first_refusal name_refusal from ≡ Some e → ⊥
name_not (named x) m = let n = sym (ap (first_refusal name_refusal) x.front) ∙ m in cc

name_exact : IsExact a_name
name_exact = record {
  one_end = λ from a b r s. name_end r s;
  one_error = λ from e f m n. cc (m, n);
  not_both = λ from a e r m. name_not r m;
}

value_end : {from a b : List Token} → ReadsValue from a → ReadsValue from b → a ≡ b
value_end (valued r s) (valued t u) =
    let same = same_scan (finish (climbs r (omega arith)) s) (finish (climbs t (omega arith)) u) refl refl refl in cc

value_not : {from a : List Token} {e : ParseError} → ReadsValue from a → MeetsExpr 64 0 from e → ⊥
value_not (valued r s) m =
    let same = same_scan (finish (climbs r (omega arith)) s) (met_scan m) refl refl refl in cc

value_exact : IsExact a_value
value_exact = record {
  one_end = λ from a b r s. value_end r s;
  one_error = λ from e f m n. let same = same_scan (met_scan m) (met_scan n) refl refl refl in cc;
  not_both = λ from a e r m. value_not r m;
}

both_end : {R S : List Token → List Token → Type 0} {M N : List Token → ParseError → Type 0} {from a b : List Token}
    → Exact R M → Exact S N → ReadsBoth R S from a → ReadsBoth R S from b → a ≡ b
both_end p q (both r s) (both t u) = let e = p.one_end _ _ _ r t in q.one_end _ _ _ (rw e at s) u

both_error : {R S : List Token → List Token → Type 0} {M N : List Token → ParseError
    → Type 0} {from : List Token} {e f : ParseError} → Exact R M → Exact S N → MeetsBoth M R N from e
    → MeetsBoth M R N from f → e ≡ f
both_error p q (here m) (here n) = p.one_error _ _ _ m n
both_error p q (here m) (behind t n) = absurd (p.not_both _ _ _ t m)
both_error p q (behind r m) (here n) = absurd (p.not_both _ _ _ r n)
both_error p q (behind r m) (behind t n) = let e = p.one_end _ _ _ r t in q.one_error _ _ _ (rw e at m) n

both_not : {R S : List Token → List Token → Type 0} {M N : List Token → ParseError
    → Type 0} {from a : List Token} {e : ParseError} → Exact R M → Exact S N → ReadsBoth R S from a
    → MeetsBoth M R N from e → ⊥
both_not p q (both r s) (here m) = p.not_both _ _ _ r m
both_not p q (both r s) (behind t n) = let e = p.one_end _ _ _ r t in q.not_both _ _ _ (rw e at s) n

pub both_exact : {R S : List Token → List Token → Type 0} {M N : List Token → ParseError → Type 0} → Exact R M
    → Exact S N → Exact (ReadsBoth R S) (MeetsBoth M R N)
both_exact p q = record {
  one_end = λ from a b r s. both_end p q r s;
  one_error = λ from e f m n. both_error p q m n;
  not_both = λ from a e r m. both_not p q r m;
}

either_end : {F : List Token → Type 0} {R S : List Token → List Token → Type 0} {M N : List Token → ParseError
    → Type 0} {from a b : List Token} → Exact R M → Exact S N → ReadsEither F R S from a → ReadsEither F R S from b
    → a ≡ b
either_end p q (one f r) (one g s) = p.one_end _ _ _ r s
either_end p q (one f r) (other g s) = absurd (g f)
either_end p q (other f r) (one g s) = absurd (f g)
either_end p q (other f r) (other g s) = q.one_end _ _ _ r s

either_error : {F : List Token → Type 0} {R S : List Token → List Token → Type 0} {M N : List Token → ParseError
    → Type 0} {from : List Token} {e f : ParseError} → Exact R M → Exact S N → MeetsEither F M N from e
    → MeetsEither F M N from f → e ≡ f
either_error p q (in_one f m) (in_one g n) = p.one_error _ _ _ m n
either_error p q (in_one f m) (in_other g n) = absurd (g f)
either_error p q (in_other f m) (in_one g n) = absurd (f g)
either_error p q (in_other f m) (in_other g n) = q.one_error _ _ _ m n

either_not : {F : List Token → Type 0} {R S : List Token → List Token → Type 0} {M N : List Token → ParseError
    → Type 0} {from a : List Token} {e : ParseError} → Exact R M → Exact S N → ReadsEither F R S from a
    → MeetsEither F M N from e → ⊥
either_not p q (one f r) (in_one g n) = p.not_both _ _ _ r n
either_not p q (one f r) (in_other g n) = g f
either_not p q (other f r) (in_one g n) = f g
either_not p q (other f r) (in_other g n) = q.not_both _ _ _ r n

either_exact : {F : List Token → Type 0} {R S : List Token → List Token → Type 0} {M N : List Token → ParseError
    → Type 0} → Exact R M → Exact S N → Exact (ReadsEither F R S) (MeetsEither F M N)
either_exact p q = record {
  one_end = λ from a b r s. either_end p q r s;
  one_error = λ from e f m n. either_error p q m n;
  not_both = λ from a e r m. either_not p q r m;
}

each_end : {F : List Token → Type 0} {R : List Token → List Token → Type 0} {M : List Token → ParseError
    → Type 0} {from a b : List Token} → Exact R M → ReadsEach F R from a → ReadsEach F R from b → a ≡ b
each_end p (done f) (done g) = refl
each_end p (done f) (again g s u) = absurd (f g)
each_end p (again f r t) (done g) = absurd (g f)
each_end p (again f r t) (again g s u) = let e = p.one_end _ _ _ r s in each_end p t (rw (← e) at u)

each_error : {F : List Token → Type 0} {R : List Token → List Token → Type 0} {M : List Token → ParseError
    → Type 0} {from : List Token} {e f : ParseError} → Exact R M → MeetsEach F M R from e → MeetsEach F M R from f
    → e ≡ f
each_error p (now f m) (now g n) = p.one_error _ _ _ m n
each_error p (now f m) (later g s n) = absurd (p.not_both _ _ _ s m)
each_error p (later f r m) (now g n) = absurd (p.not_both _ _ _ r n)
each_error p (later f r m) (later g s n) = let e = p.one_end _ _ _ r s in each_error p m (rw (← e) at n)

each_not : {F : List Token → Type 0} {R : List Token → List Token → Type 0} {M : List Token → ParseError
    → Type 0} {from a : List Token} {e : ParseError} → Exact R M → ReadsEach F R from a → MeetsEach F M R from e → ⊥
each_not p (done f) (now g n) = f g
each_not p (done f) (later g s n) = f g
each_not p (again f r t) (now g n) = p.not_both _ _ _ r n
each_not p (again f r t) (later g s n) = let e = p.one_end _ _ _ r s in each_not p t (rw (← e) at n)

each_exact : {F : List Token → Type 0} {R : List Token → List Token → Type 0} {M : List Token → ParseError → Type 0}
    → Exact R M → Exact (ReadsEach F R) (MeetsEach F M R)
each_exact p = record {
  one_end = λ from a b r s. each_end p r s;
  one_error = λ from e f m n. each_error p m n;
  not_both = λ from a e r m. each_not p r m;
}

let_exact : IsExact let_part
let_exact = both_exact (token_exact _)
    (both_exact name_exact (both_exact (token_exact _) (both_exact value_exact (token_exact _))))

argument_exact : IsExact argument_part
argument_exact = either_exact (both_exact (token_exact _) name_exact) value_exact

send_exact : IsExact send_part
send_exact = both_exact (token_exact _)
    (both_exact (token_exact _) (both_exact name_exact
    (both_exact (token_exact _) (both_exact value_exact (both_exact (token_exact _) (token_exact _))))))

-- a name, an open parenthesis, a name, further parts, and the end of the statement, behind a word
called_exact : (w : _) (p : Part) → IsExact p
    → IsExact (token (kind.Keyword w) ▸ a_name ▸ token (kind.Mark sign.Open) ▸ a_name ▸ further p ▸ token
    (kind.Mark sign.Close) ▸ token (kind.Mark sign.Semicolon))
called_exact w p x = both_exact (token_exact _)
    (both_exact name_exact (both_exact (token_exact _)
    (both_exact name_exact (both_exact (each_exact (both_exact (token_exact _) x))
    (both_exact (token_exact _) (token_exact _))))))

uses_exact : IsExact uses_part
uses_exact = each_exact (either_exact (called_exact word.Spawn a_value value_exact) send_exact)

end_exact : (inside : Part) → IsExact inside → IsExact (end_part inside)
end_exact inside x =
    either_exact (both_exact (token_exact _) (both_exact value_exact (both_exact x (both_exact (token_exact _) x))))
    (either_exact send_exact (both_exact (called_exact word.SpawnNext argument_part argument_exact) uses_exact))

too_deep_error : {from : List Token} {e f : ParseError} → MeetsTooDeep from e → MeetsTooDeep from f → e ≡ f
too_deep_error (no_brace m) (no_brace n) = m.is ∙ sym n.is
too_deep_error (no_brace m) (brace b) = absurd (m.lacks.lacks _ (begins_at b))
too_deep_error (brace b) (no_brace m) = absurd (m.lacks.lacks _ (begins_at b))
too_deep_error (brace b) (brace d) = let s = (same_first b d refl).places in cc

block_exact : (deep : ℕ) → IsExact (block_part deep)
unfolding block_part
block_exact zero = record {
  one_end = λ from a b r s. absurd r;
  one_error = λ from e f m n. too_deep_error m n;
  not_both = λ from a e r m. r;
}
block_exact (suc inside) =
    both_exact (token_exact _) (both_exact (each_exact let_exact)
    (both_exact (end_exact _ (block_exact inside)) (token_exact _)))

thread_exact : IsExact thread_part
thread_exact =
    both_exact (token_exact _) (both_exact name_exact
    (both_exact (token_exact _) (both_exact name_exact
    (both_exact (each_exact (both_exact (token_exact _) name_exact))
    (both_exact (token_exact _) (block_exact 64))))))

last_end : {from a b : List Token} → ReadsEnd from a → ReadsEnd from b → a ≡ b
last_end (ended x e) (ended y f) = e ∙ sym f

last_not : {from a : List Token} {e : ParseError} → ReadsEnd from a → MissesEnd from e → ⊥
last_not (ended x e) m = m.lacks _ x

last_exact : IsExact last_part
last_exact = record {
  one_end = λ from a b r s. last_end r s;
  one_error = λ from e f m n. m.is ∙ sym n.is;
  not_both = λ from a e r m. last_not r m;
}

pub program_exact : IsExact program_part
program_exact = both_exact (each_exact thread_exact) last_exact
