use Rattle.std.proofs.Common.{ap, length, arith}
use Rattle.local_pool.proofs.Puts.{marks, finds, learned}
use Rattle.local_pool.proofs.turns.put_first.Goals as goal

pub push_as-requires-clause-rule : goal.push_as-requires-clause-rule
push_as-requires-clause-rule g c = (
  marks _ _ _ _ (ap (λ v. v.parts) c.requires.blank)
      (ap (λ v. v.stamp) c.requires.blank),
  finds _ _,
)

pub unreachable-requires : goal.unreachable-requires
unreachable-requires g c =
    let held = c.in_default.ensures.rule.2 in
    let full = held.1 in
    let put = ap (λ v. length v.put) c.requires.blank in
    let learn = learned _ held.0 (ap (λ v. v.parts) c.requires.blank) held.2 in
    omega (arith, learn.1, c.requires.room)
