-- Small facts of a view, each over the tables that it reads: so it stays as it is where these stay.
use Rattle.std.specs.Prelude.{◌≡◌, ℕ, ℤ, ◌+◌, ◌<◌, ◌≤◌, suc, Bool, List, Option, Some, None}
use Rattle.ids.specs.Names.{Grant, is_worker}
use Rattle.table_laws.specs.Tables.{◌∈◌}
use Rattle.table_laws.specs.Content.{Content}
use Rattle.table_laws.specs.View.{Transfer, Ack, Result, Steal, Leave, Unlisted, Dead, Left, Roster, Sub, Request, Reply, Mode, Member, Works, Takes, View}

-- the name is a worker's; else a house's
unfoldable pub of_worker : ℕ → Bool
of_worker i = is_worker i

-- a transfer of g at hop h went to i
pub record SentTo (transfers : List Transfer) (g : Grant) (h i : ℕ) : Type 0 where
  pub transfer : Transfer
  pub sent : transfer ∈ transfers
  pub grant : transfer.grant ≡ g
  pub hop : transfer.hop ≡ h
  pub to : transfer.to ≡ i

-- a transfer of g went to i
pub record Came (transfers : List Transfer) (g : Grant) (i : ℕ) : Type 0 where
  pub transfer : Transfer
  pub sent : transfer ∈ transfers
  pub grant : transfer.grant ≡ g
  pub to : transfer.to ≡ i

-- g was granted
pub record Granted (transfers : List Transfer) (g : Grant) : Type 0 where
  pub transfer : Transfer
  pub sent : transfer ∈ transfers
  pub grant : transfer.grant ≡ g

-- i said Leave
pub record Said (leaves : List Leave) (i : ℕ) : Type 0 where
  pub leave : Leave
  pub sent : leave ∈ leaves
  pub from : leave.from ≡ i

-- i said Leave to the house of that epoch
pub record SaidTo (leaves : List Leave) (i epoch : ℕ) : Type 0 where
  pub leave : Leave
  pub sent : leave ∈ leaves
  pub from : leave.from ≡ i
  pub epoch_is : leave.epoch ≡ epoch

-- hop h is above what was taken
abbrev pub Above : Option ℕ → ℕ → Type 0
Above None h = Unit {0}
Above (Some taken) h = taken < h

-- the last reply answers seq, or a later one
abbrev pub Answered : Option Reply → ℕ → Type 0
Answered None seq = ⊥
Answered (Some reply) seq = seq ≤ reply.seq

-- the Steal, the request and the Refuse of one thief, seq and victim
abbrev pub steal_of : ℕ → ℕ → ℕ → Steal
steal_of thief seq victim = record { thief = thief; seq = seq; victim = victim }

-- the Result of a grant, for a host
abbrev pub result_to : Grant → ℕ → Option ℤ → Result
result_to g i o = record { grant = g; host = i; outcome = o }

-- what a Grant answers: the Steal that was sent, and as its thief waits on it
abbrev pub stolen_by : Transfer → Steal
stolen_by t = steal_of t.to t.seq t.from

abbrev pub request_of : Transfer → Request
request_of t = record { victim = t.from; seq = t.seq }

-- the OfferAck of a transfer
abbrev pub ack_of : Transfer → Ack
ack_of t = record { grant = t.grant; hop = t.hop; from = t.to; to = t.from }

-- the Offer of a sub of g that i has frozen for its heir
abbrev pub offer_of : ℕ → ℕ → Grant → Sub → Transfer
offer_of i heir g s = record { grant = g; hop = suc s.hop; from = i; to = heir; seq = 0; content = s.content }

-- the next Grant of i
abbrev pub grant_of : View → ℕ → ℕ → ℕ → Content → Transfer
grant_of v i thief seq c = record { grant = record { minter = i; number = v.minted i + 1 }; hop = 0; from = i; to = thief; seq = seq; content = c }

-- i holds g live: not frozen
pub record LiveIn (mode : ℕ → Mode) (subs : ℕ → Grant → Option Sub) (i : ℕ) (g : Grant) (s : Sub) : Type 0 where
  pub member : mode i ≡ Member
  pub holds : subs i g ≡ Some s

abbrev pub Live : View → ℕ → Grant → Sub → Type 0
Live v = LiveIn v.mode v.subs

-- a transfer can still be taken, or may come to be
pub record OpenIn (mode : ℕ → Mode) (seen : ℕ → Grant → Option ℕ) (transfers : List Transfer) (t : Transfer) : Type 0 where
  pub sent : t ∈ transfers
  pub takes : Takes (mode t.to)
  pub above : Above (seen t.to t.grant) t.hop

abbrev pub Open : View → Transfer → Type 0
Open v = OpenIn v.mode v.seen v.transfers

-- a head of g: a place where the work of g is, or from where it can still be taken up; c is its
-- content there
pub data HeadIn (mode : ℕ → Mode) (seen : ℕ → Grant → Option ℕ) (subs : ℕ → Grant → Option Sub) (transfers : List Transfer) (g : Grant) (c : Content) : Type 0 where
  live_at : (i : ℕ) (s : Sub) → LiveIn mode subs i g s → s.content ≡ c → HeadIn mode seen subs transfers g c
  open_at : (t : Transfer) → OpenIn mode seen transfers t → t.grant ≡ g → t.content ≡ c → HeadIn mode seen subs transfers g c

abbrev pub Head : View → Grant → Content → Type 0
Head v = HeadIn v.mode v.seen v.subs v.transfers

-- c is a content of g: of a sub, frozen ones too, or of a transfer
pub data ContIn (mode : ℕ → Mode) (subs : ℕ → Grant → Option Sub) (transfers : List Transfer) (g : Grant) (c : Content) : Type 0 where
  held : (i : ℕ) (s : Sub) → Works (mode i) → subs i g ≡ Some s → s.content ≡ c → ContIn mode subs transfers g c
  sent : (t : Transfer) → t ∈ transfers → t.grant ≡ g → t.content ≡ c → ContIn mode subs transfers g c

abbrev pub Cont : View → Grant → Content → Type 0
Cont v = ContIn v.mode v.subs v.transfers

-- i is a parent host of g: in a content of it, or as addressee of a Result
pub data HostIn (mode : ℕ → Mode) (subs : ℕ → Grant → Option Sub) (transfers : List Transfer) (results : List Result) (g : Grant) (i : ℕ) : Type 0 where
  by_content : (c : Content) → ContIn mode subs transfers g c → c.host ≡ i → HostIn mode subs transfers results g i
  by_result : (x : Result) → x ∈ results → x.grant ≡ g → x.host ≡ i → HostIn mode subs transfers results g i

abbrev pub Host : View → Grant → ℕ → Type 0
Host v = HostIn v.mode v.subs v.transfers v.results

-- i is on the path of g: some transfer of g to it can't be taken any more
pub record PathIn (mode : ℕ → Mode) (seen : ℕ → Grant → Option ℕ) (transfers : List Transfer) (g : Grant) (i : ℕ) : Type 0 where
  pub transfer : Transfer
  pub sent : transfer ∈ transfers
  pub grant : transfer.grant ≡ g
  pub to : transfer.to ≡ i
  pub shut : Takes (mode i) → Above (seen i g) transfer.hop → ⊥

abbrev pub Path : View → Grant → ℕ → Type 0
Path v = PathIn v.mode v.seen v.transfers

-- following the heirs of a roster, i's work is with j
pub data Resolves (roster : Roster) : ℕ → ℕ → Type 0 where
  stays : (i : ℕ) → Resolves roster i i
  follows : (i heir j : ℕ) → roster.status i ≡ Left heir → Resolves roster heir j → Resolves roster i j

-- i is lost to the house: dead in its roster; or gone, without a Leave to it; or of an earlier
-- epoch
pub data LostIn (mode : ℕ → Mode) (kept : ℕ → Option Roster) (leaves : List Leave) (house : Roster) (i : ℕ) : Type 0 where
  is_dead : house.status i ≡ Dead → LostIn mode kept leaves house i
  is_gone : (Works (mode i) → ⊥) → (SaidTo leaves i house.epoch → ⊥) → LostIn mode kept leaves house i
  is_behind : (roster : Roster) → kept i ≡ Some roster → roster.epoch < house.epoch → LostIn mode kept leaves house i

abbrev pub Lost : View → Roster → ℕ → Type 0
Lost v = LostIn v.mode v.roster v.leaves

-- a later roster lists whom an earlier one listed, and who was dead or had left stays so
pub record Grows (r s : Roster) : Type 0 where
  pub listed : (i : ℕ) → s.status i ≡ Unlisted → r.status i ≡ Unlisted
  pub dead : (i : ℕ) → r.status i ≡ Dead → s.status i ≡ Dead
  pub left : (i h : ℕ) → r.status i ≡ Left h → s.status i ≡ Left h

-- the number of a record of g in a content
pub record RecordOf (c : Content) (g : Grant) : Type 0 where
  pub number : ℕ
  pub is : c.granted number ≡ Some g
