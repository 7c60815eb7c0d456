-- Offers of what a node holds, to the heir to which it leaves.
use Rattle.std.specs.Prelude.{ℕ, ◌+◌, ◌^◌, Bool, not, nat_lt, if◌then◌else◌, List, [], length, Option, None, Some}
use Rattle.task_tree.specs.declared.tree.Program.{Program}
use Rattle.codec.specs.Table.{PacketOf, packet as spelling}
use Rattle.codec.specs.declared.body.Body.TheVariants as body
use Rattle.codec.specs.declared.body.Offer.{Offer}
use Rattle.subcomputation.specs.Fitting.{content_fits}
use Rattle.subcomputation.specs.Subs.{SubOf}

-- an Offer of a subcomputation: it moves once more
abbrev pub offer_of : ℕ → SubOf → Offer
offer_of i s = record {
  from = i;
  grant = s.grant;
  hop = s.hop + 1;
  parent = s.content.parent;
  progress = s.content.progress;
  task = s.content.task;
  next = s.content.next;
  frames = s.content.frames;
  records = s.content.records;
}

-- what an Offer hands on
abbrev pub offered : Offer → SubOf
offered o = record {
  grant = o.grant;
  hop = o.hop;
  content = record { parent = o.parent; progress = o.progress; task = o.task; next = o.next; frames = o.frames; records = o.records };
  saved = [];
}

-- it is taken by node i, which holds these subcomputations, where it fits the program and the node
abbrev pub accepted : Program → ℕ → List SubOf → Offer → Option SubOf
accepted p i subs o = if content_fits p i subs (offered o).content then Some (offered o) else None

-- the Offer, in a packet of a job from one worker to its heir
abbrev pub offer : ℕ → ℕ → ℕ → SubOf → PacketOf
offer job from heir s = record { job = job; to = heir; body = body.Offer (offer_of from s) }

-- a subcomputation that has moved as often as is counted, and an Offer of too many bytes
abbrev pub is_last_hop : SubOf → Bool
is_last_hop s = not (nat_lt (s.hop + 1) (2 ^ 32))

abbrev pub is_too_big : PacketOf → Bool
is_too_big p = nat_lt 1073741824 (length (spelling.write p))
