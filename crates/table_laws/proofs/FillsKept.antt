-- What was filled stays full, and no slot is filled twice: under each move, and so in each view
-- that moves lead to.
use Rattle.std.proofs.Common.{ℤ, ◌≡◌, ℕ, List, [], ◌∷◌, ◌⊎◌, Option, Some, None, refl, inl, inr, ⊎_elim, arith, ◌∙◌}
use Rattle.ids.specs.Names.{Grant}
use Rattle.table_laws.specs.Tables.{◌∈◌, put}
use Rattle.table_laws.specs.Content.{Content, Sound, Fill, Changes, filled, regrant, rehost}
use Rattle.table_laws.specs.View.{Transfer, Ack, Result, Sub, Request, Mode, Joining, House, Works, View, first_over}
use Rattle.table_laws.specs.Facts.{Live, Head, live_at, ack_of, grant_of}
use Rattle.table_laws.specs.Moves.{start, admit, stop, mint, take, freeze, remove, alter, grant_frame}
use Rattle.table_laws.specs.Guards.{MayAnswer, Begins, MayTake, MayFreeze}
use Rattle.table_laws.specs.Acts.{Act, starts, admits, adopts, fails, goes, marks_lost, opens, grants_root, closes_root, commits, publishes, closes, asks, refuses, grants, takes_grant, hears_refuse, gives_up, freezes, takes_offer, acknowledges, releases, leaves, alters, drops, renames, settles, settles_at_house, ReachedInTables, at_first, by_act}
use Rattle.table_laws.specs.Names.{Names}
use Rattle.table_laws.specs.Fills.{SameSlot, Once, Fills}
use Rattle.table_laws.proofs.Lists.{Within, same, later, either, spot_or}
use Rattle.table_laws.proofs.Sent.{granted_within, granted_of, held_sent, fresh}
use Rattle.table_laws.proofs.OneHead.{one_head}
use Rattle.table_laws.proofs.NamesReached.{names_minted, names_kept, names_reached}
use Rattle.table_laws.proofs.Heads.{Heads, written, heads_new, heads_admit, heads_stop, heads_remove, heads_take, heads_freeze, heads_alter, heads_mint}

-- where all heads were heads, and the fills are the same
fills_by : (v w : View) → Heads v w → w.fills ≡ v.fills → Within v.transfers w.transfers
    → ((i : ℕ) (g : Grant) (s : Sub) → Works (w.mode i) → w.subs i g ≡ Some s → Sound s.content)
    → ((t : Transfer) → t ∈ w.transfers → Sound t.content)
    → Fills v → Fills w
fills_by v w heads fills more subs_sound sent_sound f = record {
  subs_sound = subs_sound;
  sent_sound = sent_sound;
  fill_granted = λ x m. granted_within more (f.fill_granted x (rw fills at m));
  fill_closed = λ x c m h. f.fill_closed x c (rw fills at m) (heads x.grant c h);
  once = rw fills f.once;
}

fills_new : (v : View) (i : ℕ) (m : Mode) → (i ∈ v.used → ⊥) → Names v → Fills v
    → Fills (record (start v i) { mode = put v.mode i m })
fills_new v i m new n f = fills_by v (record (start v i) { mode = put v.mode i m }) (heads_new v i m new n) refl
    (same v.transfers) (λ j g s w e. grind (arith, f.subs_sound)) f.sent_sound f

fills_stop : (v : View) (i : ℕ) → Fills v → Fills (stop v i)
fills_stop v i f = fills_by v (stop v i) (heads_stop v i) refl (same v.transfers)
    (λ j g s w e. grind (arith, f.subs_sound)) f.sent_sound f

fills_remove : (v : View) (i : ℕ) (g : Grant) (aborted : List Grant) → Fills v → Fills (remove v i g aborted)
fills_remove v i g aborted f = fills_by v (remove v i g aborted) (heads_remove v i g aborted) refl (same v.transfers)
    (λ j k s w e. grind (arith, f.subs_sound)) f.sent_sound f

fills_take : (v : View) (i : ℕ) (t : Transfer) (request : Option Request) (new : List Ack) → MayTake v i t new → Fills v
    → Fills (take v i t request new)
fills_take v i t request new may f =
    fills_by v (take v i t request new) (heads_take v i t request new may) refl (same v.transfers)
    (λ j g s w e. ⊎_elim
    (λ both. let r : Sub = record { hop = t.hop; content = t.content } in let is : Some r ≡ Some s =
    grind (arith, both) in rw (written is) at (f.sent_sound t may.sent))
    (λ other. f.subs_sound j g s w (grind (arith, other)))
    (spot_or j i g t.grant))
    f.sent_sound f

fills_freeze : (v : View) (i heir : ℕ) (offers : List Transfer) → MayFreeze v i heir offers → Fills v
    → Fills (freeze v i heir offers)
fills_freeze v i heir offers may f =
    fills_by v (freeze v i heir offers) (heads_freeze v i heir offers may) refl (later offers v.transfers)
    (λ j g s w e. f.subs_sound j g s (grind (arith, may.member)) e)
    (λ t m. ⊎_elim (λ l. let o = may.each t l in rw o.is (f.subs_sound i t.grant o.sub (rw may.member tt) o.holds))
    (f.sent_sound t) (either offers v.transfers t m))
    f

-- a new grant has no fills
fills_mint : (v : View) (i thief seq : ℕ) (c : Content) → Works (v.mode i) → Begins c i → Names v → Fills v
    → Fills (mint v i thief seq c)
fills_mint v i thief seq c works begins n f = record {
  subs_sound = f.subs_sound;
  sent_sound = λ t. elim [ inl e ↦ rw e begins.sound | inr m ↦ f.sent_sound t m ];
  fill_granted = λ x m. granted_within (λ t p. inr p) (f.fill_granted x m);
  fill_closed = λ x d m h. ⊎_elim
      (f.fill_closed x d m)
      (λ e. let granted = f.fill_granted x m in absurd
      (fresh v i n works granted.transfer granted.sent (granted.grant ∙ e)))
      (heads_mint v i thief seq c x.grant d h);
  once = f.once;
}

pub filled_or : (new : Option Fill) (old : List Fill) (x : Fill) → x ∈ filled new old → (new ≡ Some x) ⊎ (x ∈ old)
filled_or None old x m = inr m
filled_or (Some y) old x (inl e) = inl (rw e refl)
filled_or (Some y) old x (inr m) = inr m

once_more : (new : Option Fill) (old : List Fill) → ((x y : Fill) → new ≡ Some x → y ∈ old → SameSlot x y → ⊥)
    → Once old → Once (filled new old)
once_more None old apart once = once
once_more (Some x) old apart once = (λ y m. apart x y refl m, once)

-- a live sub fills a slot, which wasn't closed: so no earlier fill was of it
fills_alter : (v : View) (i : ℕ) (g : Grant) (s : Sub) (c : Content) (fill : Option Fill) (results : List Result)
    (gone : List Grant) → Live v i g s → Changes g s.content c fill → Names v
    → Names (alter v i g s c fill results gone) → Fills v → Fills (alter v i g s c fill results gone)
fills_alter v i g s c fill results gone here change n after f = record {
  subs_sound = λ j k r w e. ⊎_elim
      (λ both. let q : Sub = record { hop = s.hop; content = c } in let it : Some q ≡ Some r =
      grind (arith, both) in rw (written it) at (change.sound before))
      (λ other. f.subs_sound j k r w (grind (arith, other)))
      (spot_or j i k g);
  sent_sound = f.sent_sound;
  fill_granted = λ x m. ⊎_elim
      (λ l. rw (change.own x l) (granted_of (held_sent v n i g s (rw here.member tt) here.holds)))
      (f.fill_granted x)
      (filled_or fill v.fills x m);
  fill_closed = λ x d m h. ⊎_elim
      (λ l. rw (one_head w after g c d now (rw (change.own x l) at h)) at (change.closes before x l))
      (λ r. ⊎_elim
      (λ old. f.fill_closed x d r old)
      (λ new. rw new.1 at (change.closed before x.frame x.slot (f.fill_closed x s.content r (rw new.0 head))))
      (heads_alter v i g s c x.grant d h))
      (filled_or fill v.fills x m);
  once = once_more fill v.fills (λ x y l m slot.
      change.fresh before x l (rw (slot.frame, slot.slot)
      (f.fill_closed y s.content m (rw (← slot.grant, change.own x l) head)))) f.once;
}
  where
    w : View
    w = alter v i g s c fill results gone

    before : Sound s.content
    before = f.subs_sound i g s (rw here.member tt) here.holds

    head : Head v g s.content
    head = live_at i s here refl

    now : Head (alter v i g s c fill results gone) g c
    now = live_at i (record { hop = s.hop; content = c }) (record { member = here.member; holds = grind arith }) refl

-- a record changes places with its frame
changes_regrant : (g : Grant) (c : Content) (n : ℕ) (k : Option Grant) → Changes g c (regrant c n k) None
changes_regrant g c n k = record {
  sound = λ s. assumption s;
  closed = λ s f j a. record { old = a.old; full = a.full };
  own = λ x e. cc;
  closes = λ s x e. cc;
  fresh = λ s x e. cc;
}

-- the outcome goes to another host
changes_rehost : (g : Grant) (c : Content) (host : ℕ) → Changes g c (rehost c host) None
changes_rehost g c host = record {
  sound = λ s. assumption s;
  closed = λ s f j a. record { old = a.old; full = a.full };
  own = λ x e. cc;
  closes = λ s x e. cc;
  fresh = λ s x e. cc;
}

fills_grant : (v : View) (i : ℕ) (g : Grant) (s : Sub) (m thief seq : ℕ) (c : Content) → Live v i g s
    → MayAnswer v i thief seq → Begins c i → Names v → Names (grant_frame v i g s m thief seq c) → Fills v
    → Fills (grant_frame v i g s m thief seq c)
fills_grant v i g s m thief seq c here may begins n after f =
    let k = (grant_of v i thief seq c).grant in
    fills_alter (mint v i thief seq c) i g s (regrant s.content m (Some k)) None [] []
    (record { member = here.member; holds = here.holds }) (changes_regrant g s.content m (Some k))
    (names_minted v i g s thief seq c here may begins n) after
    (fills_mint v i thief seq c (rw here.member tt) begins n f)

fills_act : {v w : View} → Act v w → Names v → Names w → Fills v → Fills w
fills_act {v} (starts i new worker) n after f = fills_new v i Joining new n f
fills_act {v} (admits i roster joins listed) n after f = let admitted =
    fills_by v (admit v i) (heads_admit v i joins n) refl (same v.transfers)
    (λ j g s w e. grind (arith, f.subs_sound)) f.sent_sound f in assumption admitted
fills_act (adopts i old roster may) n after f = assumption f
fills_act {v} (fails i may) n after f = let stopped = fills_stop v i f in assumption stopped
fills_act {v} (goes i said) n after f = fills_stop v i f
fills_act (marks_lost i used worker lost) n after f = assumption f
fills_act {v} (opens i lost roster may) n after f = let opened = fills_new v i House may.new n f in assumption opened
fills_act {v} (grants_root i thief seq c house new may begins) n after f = let minted =
    fills_mint v i thief seq c (rw house tt) begins n f in assumption minted
fills_act (closes_root k is) n after f = assumption f
fills_act (commits i k o may) n after f = assumption f
fills_act (publishes house roster may) n after f = assumption f
fills_act {v} (closes i house) n after f = let stopped = fills_stop v i f in assumption stopped
fills_act (asks i victim may) n after f = assumption f
fills_act (refuses i thief seq works may) n after f = assumption f
fills_act {v} (grants i g s m thief seq c here may begins frame) n after f =
    fills_grant v i g s m thief seq c here may begins n after f
fills_act {v} (takes_grant i t may hop asked) n after f = fills_take v i t None [] may f
fills_act (hears_refuse i x refused thief asked) n after f = assumption f
fills_act (gives_up i why) n after f = assumption f
fills_act {v} (freezes i heir offers may) n after f = fills_freeze v i heir offers may f
fills_act {v} (takes_offer i t h may hop) n after f = fills_take v i t (v.pending i) (ack_of t ∷ []) may f
fills_act (acknowledges t sent seen works) n after f = assumption f
fills_act {v} (releases i heir g s may) n after f = fills_remove v i g [] f
fills_act (leaves i heir roster keeps may) n after f = assumption f
fills_act {v} (alters i g s c fill results gone here change is) n after f =
    fills_alter v i g s c fill results gone here change n after f
fills_act {v} (drops i g s gone here had why) n after f = fills_remove v i g gone f
fills_act {v} (renames i g s roster host here listed way) n after f =
    fills_alter v i g s (rehost s.content host) None [] [] here (changes_rehost g s.content host) n after f
fills_act (settles i g may) n after f = assumption f
fills_act (settles_at_house i g may) n after f = assumption f

pub fills_kept : {v w : View} → Act v w → Names v → Fills v → Fills w
fills_kept act n f = fills_act act n (names_kept act n) f

fills_first : (epoch : ℕ) (stored : Option (Option ℤ)) → Fills (first_over epoch stored)
fills_first epoch stored = record {
  subs_sound = λ i g s w e. absurd w;
  sent_sound = λ t m. absurd m;
  fill_granted = λ x m. absurd m;
  fill_closed = λ x c m h. absurd m;
  once = tt;
}

pub fills_reached : {v : View} → ReachedInTables v → Fills v
fills_reached (at_first epoch stored) = fills_first epoch stored
fills_reached (by_act r act) = fills_kept act (names_reached r) (fills_reached r)
