use Rattle.std.proofs.Common.{◌≡◌, ap, ◌∙◌, FitsSigned, w64, rules}
use Rattle.std.proofs.Math.Facts.{to_z-of_z}
use Rattle.ids.specs.Named.{Name, changed_in}
use Rattle.ids.specs.Naming.{name_of_frame}
use Rattle.frames.specs.Frames.{frame_in, with_slot}
use Rattle.frames.proofs.Filling.{changed_is_fill, fits_there}
use Rattle.frames.proofs.store.Frames.put.Goals as goal

pub change-requires : goal.change-requires
change-requires c =
    let fits : FitsSigned w64 c.args.value = search rules in
    rw (c.name.ensures, to_z-of_z fits)
    (fits_there c.args.slot (frame_in c.args.number c.self.inside.frames) (rw c.self.view_is c.requires))

pub returns : goal.returns
returns c =
    let fits : FitsSigned w64 c.args.value = search rules in
    let changed : c.change.new.self ≡ changed_in name_of_frame
    (with_slot c.args.slot c.args.value) c.name.result c.self.inside.frames =
    rw (to_z-of_z fits) at c.change.ensures in
    changed
    ∙ ap (λ (name : Name). changed_in name_of_frame (with_slot c.args.slot c.args.value) name c.self.inside.frames)
    c.name.ensures
    ∙ ap (λ frames. changed_in name_of_frame (with_slot c.args.slot c.args.value) (c.args.number, 0) frames)
    c.self.view_is
    ∙ changed_is_fill c.args.slot c.args.value c.args.self.now (frame_in c.args.number c.args.self.now)
