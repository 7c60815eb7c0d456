use Rattle.std.proofs.Common.{◌≡◌, ◌∙◌, ◌+◌, ◌-◌, List, ℕ, true, false, not, ap, nat_eq, rules, arith, drop, take}
use Rattle.std.specs.Cmp.Lexicographic.{bytes_decides, pointwise}
use Rattle.checkpoint.proofs.Listing.{entry_read, no_kid, not_chosen, not_false, not_unused, zeros_from}
use Rattle.checkpoint.proofs.entries.read_entry.Goals as goal

pub returns-then-ne-clause-none : goal.returns-then-ne-clause-none
returns-then-ne-clause-none c x = not_unused c.args.entry.now c.from-len.result x c.from-len.ensures (λ same.
    let unused : List ℕ = take (24 - (1 + c.from-len.result)) (drop (1 + c.from-len.result) c.args.entry.now) in
    let zeros : List ℕ = zeros_from c.from-len.result in
    let told : pointwise nat_eq unused zeros ≡ true = (bytes_decides unused zeros).1 same in
    let no : c.ne.result ≡ false = c.ne.ensures ∙ ap not told in
    let yes = c.if-ne.true in
    cc)

pub returns-in_default-clause-none : goal.returns-in_default-clause-none
returns-in_default-clause-none c x =
    no_kid c.args.entry.now c.from-len.result x c.from-len.ensures (not_chosen _ _ c.in_default.ensures)

pub returns-clause-some : goal.returns-clause-some
returns-clause-some c =
    let unused : List ℕ = take (24 - (1 + c.from-len.result)) (drop (1 + c.from-len.result) c.args.entry.now) in
    let zeros : List ℕ = zeros_from c.from-len.result in
    let same : unused ≡ zeros = (bytes_decides unused zeros).0
    (not_false (pointwise nat_eq unused zeros) c.ne.result c.ne.ensures c.if-ne.false) in
    entry_read c.args.entry.now c.from-len.result c.in-Some.place _ c.from-len.ensures
    (omega arith) c.requires same c.in-Some.ensures (search rules)
