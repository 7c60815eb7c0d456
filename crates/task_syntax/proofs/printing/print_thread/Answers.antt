use Rattle.task_tokens.specs.declared.kinds.TokenKind.TheVariants.{Keyword}
use Rattle.task_tokens.specs.declared.kinds.Word.TheVariants as word
use Rattle.task_syntax.proofs.PrintLaws.{prints_more, line_written}
use Rattle.task_syntax.proofs.printing.print_thread.Goals as goal

pub returns : goal.returns
returns c =
    let numbers = rw c.as_slice.ensures at c.print_numbers.ensures in
    let head = prints_more (prints_more (prints_more c.name.ensures c.mark.ensures) c.name-2.ensures) numbers in
    line_written c.args.out.now c.bytes.new.self c.print_block.new.out c.bytes-2.new.self
    (Keyword word.Thread) _ c.bytes.ensures
    (prints_more head (prints_more c.mark-2.ensures c.print_block.ensures)) c.bytes-2.ensures
