use Rattle.std.proofs.Common.{◌≡◌, ◌+◌, ◌<◌, ◌^◌, [], false, Option, None, subst, rules}
use Rattle.clearinghouse.specs.Calls as calls
use Rattle.clearinghouse.specs.Cases.{on_packet}
use Rattle.clearinghouse.specs.Meeting.{IsHouseOn, IsOpen, IsSaved, state_of}
use Rattle.clearinghouse.specs.declared.parts.Stop.{Stop}
use Rattle.clearinghouse.proofs.Saving.{saves_carried}
use Rattle.clearinghouse.proofs.Standing.{packet_stands}
use Rattle.clearinghouse.proofs.house.House.on_bytes.Goals as goal

pub invariant_of-self-in-Ok-Sends : goal.invariant_of-self-in-Ok-Sends
invariant_of-self-in-Ok-Sends g c =
    let h = c.self.inside in
    let stands : h.stop ≡ None = search rules in
    let before : IsOpen h.job.now h.store h.book =
    subst (λ (s : Option Stop). IsHouseOn (record { job = h.job.now; state = state_of h.book s; store = h.store })
    (state_of h.book s)) stands c.self.invariant in
    rw stands (packet_stands h.job.now h.store h.book before c.in-Ok.packet c.in-Ok-Sends.sent c.on_packet.new.self
    (rw c.in-Ok-Sends.field-0-is at c.in-Ok-Sends.ensures))

pub returns-in-Ok-Saves-clause-meets : goal.returns-in-Ok-Saves-clause-meets
returns-in-Ok-Saves-clause-meets g c =
    let h = c.self.inside in
    let stands : h.stop ≡ None = search rules in
    let before : IsOpen h.job.now h.store h.book =
    subst (λ (s : Option Stop). IsHouseOn (record { job = h.job.now; state = state_of h.book s; store = h.store })
    (state_of h.book s)) stands c.self.invariant in
    let expected : calls.on_bytes h.job.now c.args.bytes.now (state_of h.book None)
    ≡ on_packet h.job.now c.in-Ok.packet h.book = search rules in
    let acts : IsSaved (on_packet h.job.now c.in-Ok.packet h.book) c.in-Ok-Saves.saved h.book
    × (c.on_packet.new.self ≡ h.book) × (h.book.sequence + 1 < 2 ^ 64) =
    rw c.in-Ok-Saves.field-0-is at c.in-Ok-Saves.ensures in
    let done = c.commit_saved.ensures.done (search rules) in
    let told : c.sends-in-Ok-Saves.result ≡ record { sent = []; ignored = false } = search rules in
    rw (← c.self.view_is, stands, expected)
    (saves_carried g.D.Disk.device g.D.Disk.planned h.job.now h.store c.commit_saved.new.store h.book
    c.commit_saved.new.book (on_packet h.job.now c.in-Ok.packet h.book) c.in-Ok-Saves.saved
    c.sends-in-Ok-Saves.result acts.0 before (rw acts.1 at done.0) done.1 told)
