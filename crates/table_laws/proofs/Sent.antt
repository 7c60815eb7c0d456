-- What was sent stays sent.
use Rattle.std.proofs.Common.{◌≡◌, ℕ, ◌+◌, List, Some, refl, sym, ap, ◌∙◌, arith}
use Rattle.ids.specs.Names.{Grant}
use Rattle.table_laws.specs.Tables.{◌∈◌}
use Rattle.table_laws.specs.View.{Transfer, Sub, Mode, Works, Takes, View}
use Rattle.table_laws.specs.Facts.{SentTo, Came, Granted}
use Rattle.table_laws.specs.Names.{Handed, Names}
use Rattle.table_laws.proofs.Lists.{Within}

pub sent_within : {ts us : List Transfer} {g : Grant} {h i : ℕ} → Within ts us → SentTo ts g h i → SentTo us g h i
sent_within w s = record { transfer = s.transfer; sent = w s.transfer s.sent; grant = s.grant; hop = s.hop; to = s.to }

pub came_within : {ts us : List Transfer} {g : Grant} {i : ℕ} → Within ts us → Came ts g i → Came us g i
came_within w s = record { transfer = s.transfer; sent = w s.transfer s.sent; grant = s.grant; to = s.to }

pub granted_within : {ts us : List Transfer} {g : Grant} → Within ts us → Granted ts g → Granted us g
granted_within w s = record { transfer = s.transfer; sent = w s.transfer s.sent; grant = s.grant }

-- where fewer take work, an Offer was handed on as before
pub handed_by : {mode mode' : ℕ → Mode} {ts us : List Transfer} {t : Transfer} {h : ℕ} → Within ts us
    → (Takes (mode' t.from) → Takes (mode t.from)) → Handed mode ts t h → Handed mode' us t h
handed_by w f a = record { stopped = λ k. a.stopped (f k); before = sent_within w a.before }

-- a transfer as it was sent
pub sent_as : {ts : List Transfer} (t : Transfer) → t ∈ ts → SentTo ts t.grant t.hop t.to
sent_as t m = record { transfer = t; sent = m; grant = refl; hop = refl; to = refl }

-- two transfers of one grant and hop went to one addressee
pub one_to : {v : View} → Names v → {g : Grant} {h i j : ℕ} → SentTo v.transfers g h i → SentTo v.transfers g h j
    → i ≡ j
one_to n s t = let e = n.one s.transfer t.transfer s.sent t.sent (s.grant ∙ sym t.grant) (s.hop ∙ sym t.hop) in sym s.to
    ∙ ap (λ (x : Transfer). x.to) e ∙ t.to

-- the transfer by which i holds g
pub held_sent : (v : View) → Names v → (i : ℕ) (g : Grant) (s : Sub) → Works (v.mode i) → v.subs i g ≡ Some s
    → SentTo v.transfers g s.hop i
held_sent v n i g s w e = n.seen_sent i s.hop g w (n.held_seen i g s w e)

pub granted_of : {ts : List Transfer} {g : Grant} {h i : ℕ} → SentTo ts g h i → Granted ts g
granted_of s = record { transfer = s.transfer; sent = s.sent; grant = s.grant }

pub came_of : {ts : List Transfer} {g : Grant} {h i : ℕ} → SentTo ts g h i → Came ts g i
came_of s = record { transfer = s.transfer; sent = s.sent; grant = s.grant; to = s.to }

-- the next Grant of one that is up has a name that was never sent
pub fresh : (v : View) (i : ℕ) → Names v → Works (v.mode i) → (t : Transfer) → t ∈ v.transfers
    → t.grant ≡ record { minter = i; number = v.minted i + 1 } → ⊥
fresh v i n w t m e = grind (arith, n.counted t m)

pub unminted : (v : View) (i : ℕ) → Names v → Works (v.mode i)
    → Granted v.transfers (record { minter = i; number = v.minted i + 1 }) → ⊥
unminted v i n w a = fresh v i n w a.transfer a.sent a.grant
