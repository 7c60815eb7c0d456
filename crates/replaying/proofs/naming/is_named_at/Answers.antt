use Rattle.std.proofs.Common.{◌≡◌, ℕ, List, Some, slice_get, refl, sym, ap, subst, ◌∙◌, rules}
use Rattle.std.proofs.lemmas.Slice.Eq.{bytes_eq-Decides}
use Rattle.codec.specs.Table.{PacketOf, Spells}
use Rattle.traces.specs.Names.{name_of}
use Rattle.traces.proofs.Stepping.{got}
use Rattle.replaying.proofs.naming.is_named_at.Goals as goal

pub returns-in-Some-get : goal.returns-in-Some-get
returns-in-Some-get c is p at =
    let bytes : List ℕ = c.as_bytes.result.now in
    let there = c.in-Some.ensures in
    let same : c.in-Some.packet.now ≡ p = search rules in
    let spelled : Spells bytes p = subst (λ (q : PacketOf). Spells bytes q) same c.as_bytes.ensures.spelled in
    let name : c.in-Some-get.name.now ≡ name_of bytes =
    (bytes_eq-Decides c.in-Some-get.name.now (name_of bytes)).0 (sym c.names.ensures ∙ is) in
    let one : slice_get c.args.names.now c.args.number ≡ Some c.in-Some-get.name.now =
    got c.args.names.now c.args.names.now c.args.number c.in-Some-get.name.now refl c.in-Some-get.ensures.lookup.0
    c.in-Some-get.ensures.lookup.1 in
    (bytes, spelled, one ∙ ap (λ (x : List ℕ). Some x) name)
