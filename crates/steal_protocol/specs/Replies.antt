-- A victim's last answer to each thief.
use Rattle.std.specs.Prelude.{ℕ, List, Option, None, Some}
use Rattle.std.specs.Ordering.{nat_cmp}
use Rattle.std.specs.declared.cmp.Ordering.{Ordering}
use Rattle.std.specs.declared.cmp.Ordering.TheVariants.{Less, Equal, Greater}
use Rattle.ids.specs.Named.{Name, item_in, put_in, without_in}
use Rattle.codec.specs.Table.{PacketOf}
use Rattle.steal_protocol.specs.declared.replies.Heard.{Heard as HeardBy}
use Rattle.steal_protocol.specs.declared.replies.Heard.TheVariants as by
use Rattle.steal_protocol.specs.declared.replies.Reply.{Reply}

abbrev pub name_of_reply : Reply → Name
name_of_reply r = (r.thief, 0)

-- the last answer to a thief, if there was one
abbrev pub reply_in : ℕ → List Reply → Option Reply
reply_in thief replies = item_in name_of_reply (thief, 0) replies

-- with an answer in the place of the last one
abbrev pub put_reply : Reply → List Reply → List Reply
put_reply r replies = put_in name_of_reply r replies

-- without the last answer to a thief
abbrev pub without_reply : ℕ → List Reply → List Reply
without_reply thief replies = without_in name_of_reply (thief, 0) replies

-- by the order of two numbers
unfoldable pub by_order : {B : Type 0} → Ordering → (below same above : B) → B
by_order Less below same above = below
by_order Equal below same above = same
by_order Greater below same above = above

-- by the last answer to a thief: whether a request is older than the one that it answers, the same
-- again, or newer
abbrev pub by_reply : {B : Type 0} → Option Reply → ℕ → (older : B) → (again : PacketOf → B) → (newer : B) → B
by_reply None seq older again newer = newer
by_reply (Some reply) seq older again newer = by_order (nat_cmp seq reply.seq) older (again reply.packet) newer

-- what a request is to a victim
pub data Heard : Type 0 where
  Older : Heard
  Again : PacketOf → Heard
  Newer : Heard

abbrev pub heard : Option Reply → ℕ → Heard
heard reply seq = by_reply reply seq Older Again Newer

abbrev pub told : HeardBy → Heard
told by.Older = Older
told (by.Again p) = Again p.now
told by.Newer = Newer
