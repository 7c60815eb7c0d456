use Rattle.std.proofs.Common.{rules, ◌≡◌, true}
use Rattle.ids.specs.Place.{is_place}
use Rattle.packet_fields.specs.Fields as field
use Rattle.packet_fields.proofs.Loop.{is_place_read}
use Rattle.packet_fields.proofs.read.place.Goals as goal

pub returns : goal.returns
unfolding field.place field.steps
returns c =
    let test : is_place c.in_ok-steps.steps.now ≡ true =
    is_place_read c.in_ok-count.count c.u16.new.self c.in_ok-steps.steps.now c.steps.new.input
    c.if-count-gt-MOST_STEPS.false c.in_ok-steps.ensures in
    search rules
