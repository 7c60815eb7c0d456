-- A program that was read is printed as a text that is read as the same program but for offsets.
use Rattle.std.proofs.Common.{◌≡◌, ℕ, ◌<◌, ◌≤◌, Result, Ok, Err, IfOk, true, List, [], ◌∷◌, length, refl}
use Rattle.std.specs.List.{AllByRecursion, list_all}
use Rattle.std.proofs.lemmas.Bool.{and_parts, ltb-true}
use Rattle.std.proofs.lemmas.List.Elements.{All-from_recursion}
use Rattle.task_tokens.specs.Tokens.{tokens}
use Rattle.task_tokens.specs.declared.kinds.TokenKind.TheVariants as kind
use Rattle.task_tree.specs.declared.tree.Program.{Program}
use Rattle.task_syntax.specs.Printed.{printed}
use Rattle.task_syntax.specs.PrintedBack.{ReadsBack}
use Rattle.task_syntax.specs.PrintSteps.{Text, Adds}
use Rattle.task_syntax.proofs.PrintTokens.{is_ascii}
use Rattle.task_syntax.proofs.PrintTrees.{threads_again}
use Rattle.task_syntax.proofs.PrintLines.{lines_tokens, lines_ascii}
use Rattle.task_syntax.proofs.PrintFine.{tokens_fine, threads_fine}

below_by_test : (xs : List ℕ) → list_all is_ascii xs ≡ true → AllByRecursion (λ b. b < 128) xs
below_by_test [] h = tt
below_by_test (x ∷ xs) h = let parts =
    and_parts (is_ascii x) (list_all is_ascii xs) h in (ltb-true x 128 parts.0, below_by_test xs parts.1)

pub printed_reads_back : (p : Program) → length (printed p) ≤ 65536 → ReadsBack p (printed p)
printed_reads_back p short text r =
    let each = threads_fine r.program.threads (tokens_fine 0 0 text) in
    let again = lines_tokens p.threads 0 each in
    let read = threads_again r.program.threads (tokens 0 0 (printed p))
    (record { kind = kind.End; offset = again.0 } ∷ []) again.1 in
    let q : Program = record { threads = read.tree; length = again.0 } in (
      q,
      record {
        short = short;
        ascii = All-from_recursion (λ b. b < 128) (printed p) (below_by_test (printed p) (lines_ascii p.threads each));
        program = record {
          ends = record { kind = kind.End; offset = again.0 } ∷ [];
          threads = read.read;
          end = record { front = refl };
        };
      },
      read.same,
    )

-- a text that was finished, behind nothing else than what was printed
pub ok_reads_back : {V E : Type 0} (items : V → List ℕ) (a b : Text) (r : Result V E) (p : Program) → a ≡ Ok []
    → Adds a b (printed p) → IfOk r (λ v. b ≡ Ok (items v)) → IfOk r (λ v. length (items v) ≤ 65536)
    → IfOk r (λ v. ReadsBack p (items v))
ok_reads_back items a b (Err e) p first wrote text short = tt
ok_reads_back items a b (Ok v) p first wrote text short =
    let is : items v ≡ printed p = rw (first, text) at wrote in
    let low : length (printed p) ≤ 65536 = rw is at short in
    rw is (printed_reads_back p low)
