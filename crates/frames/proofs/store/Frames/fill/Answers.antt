use Rattle.std.proofs.Common.{◌≡◌, refl, ap, ◌∙◌, FitsSigned, w64, rules}
use Rattle.std.proofs.Math.Facts.{to_z-of_z}
use Rattle.frames.specs.Frames.{fill_of, frame_in, readiness_of}
use Rattle.frames.proofs.Filling.{state_filled}
use Rattle.frames.proofs.store.Frames.fill.Goals as goal

pub returns-clause-ready : goal.returns-clause-ready
returns-clause-ready c =
    let fits : FitsSigned w64 c.args.value = search rules in
    let put : c.put.new.self ≡ fill_of c.args.slot c.args.value c.args.self.now
    (frame_in c.args.number c.args.self.now) = rw (to_z-of_z fits) at c.put.ensures in
    c.state.ensures
    ∙ ap (λ frames. readiness_of (frame_in c.args.number frames)) put
    ∙ state_filled c.args.number c.args.slot c.args.value c.args.self.now (frame_in c.args.number c.args.self.now) refl
