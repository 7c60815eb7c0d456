use Rattle.std.proofs.Common.{◌≡◌, rules}
use Rattle.steal_protocol.specs.Replies.{Again, heard, reply_in}
use Rattle.clearinghouse.proofs.Answering.{again_short}
use Rattle.clearinghouse.proofs.book.Book.stolen.Goals as goal

pub alone-requires : goal.alone-requires
alone-requires c =
    let is : Again c.in-Again.packet.now ≡ heard (reply_in c.args.steal.from c.args.self.now.replies) c.args.steal.seq =
    search rules in
    again_short c.args.steal.seq c.args.steal.from c.in-Again.packet.now c.args.self.now.replies c.requires.short is
