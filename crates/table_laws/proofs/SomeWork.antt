-- Where all wanted grants have live holders, one of these has a ready frame, or has finished.
use Rattle.std.proofs.Common.{◌≡◌, ℕ, ℤ, ◌+◌, ◌<◌, ◌≤◌, suc, zero, length, ◌⊎◌, Option, Some, None, refl, sym, inl, inr, ⊎_elim, arith, ◌∙◌}
use Rattle.ids.specs.Names.{Grant}
use Rattle.table_laws.specs.Content.{Content, Return, Whole, Local, Sound}
use Rattle.table_laws.specs.View.{View}
use Rattle.table_laws.specs.Acts.{ReachedInTables}
use Rattle.table_laws.specs.Fills.{Fills}
use Rattle.table_laws.specs.Later.{born, Later}
use Rattle.table_laws.specs.Work.{Wanted, as_root, as_record, ReadyInTables, HasHolder, Working}
use Rattle.table_laws.proofs.Lists.{same_or}
use Rattle.table_laws.proofs.Conts.{live_cont}
use Rattle.table_laws.proofs.FillsKept.{fills_reached}
use Rattle.table_laws.proofs.LaterKept.{born_within, later_reached}

-- the debtor of a slot of frame f
record Debt (c : Content) (f : ℕ) : Type 0 where
  number : ℕ
  slot : ℕ
  owes : c.returns number ≡ Some (Local f slot)

-- none of the numbers below a bound returns to frame f
abbrev Free : Content → ℕ → ℕ → Type 0
Free c f bound = (n j : ℕ) → n < bound → c.returns n ≡ Some (Local f j) → ⊥

same_frame : (g j f k : ℕ) → Some (Local g j) ≡ Some (Local f k) → g ≡ f
same_frame g j f k x = cc

-- look for one
look : (c : Content) (f bound : ℕ) → Debt c f ⊎ Free c f bound
look c f zero = inr (λ n j less e. absurd (omega (arith, less)))
look c f (suc bound) = ⊎_elim (λ found. inl found) (λ rest. at rest (c.returns bound) refl) (look c f bound)
  where
    further : Free c f bound → ((j : ℕ) → c.returns bound ≡ Some (Local f j) → ⊥) → Free c f (suc bound)
    further rest last n j less e = ⊎_elim (λ (is : n ≡ bound). last j (rw is at e))
        (λ other. rest n j (omega (arith, less, other)) e) (same_or n bound)

    at : Free c f bound → (o : Option Return) → c.returns bound ≡ o → Debt c f ⊎ Free c f (suc bound)
    at rest None e = inr (further rest (λ j x. cc))
    at rest (Some Whole) e = inr (further rest (λ j x. cc))
    at rest (Some (Local g j)) e = ⊎_elim (λ (is : g ≡ f). inl (record { number = bound; slot = j; owes = rw is at e }))
        (λ other. inr (further rest (λ k x. other (same_frame g j f k (sym e ∙ x))))) (same_or g f)

-- what an active content has: a record, or a ready frame
data Has (c : Content) : Type 0 where
  has_record : (n : ℕ) (k : Grant) → c.granted n ≡ Some k → Has c
  has_ready : ReadyInTables c → Has c

-- up the numbers, from a frame to the debtor of an empty slot of it
up : (c : Content) → Sound c → (fuel n : ℕ) (r : Return) → c.returns n ≡ Some r → c.next ≤ n + fuel → Has c
up c s zero n r e most = let less = s.below n r e in absurd (omega (arith, less, most))
up c s (suc fuel) n r e most = by (λ m x f more. up c s fuel m x f more) (c.granted n) refl (look c n c.next)
  where
    by : ((m : ℕ) (x : Return) → c.returns m ≡ Some x → c.next ≤ m + fuel → Has c) → (o : Option Grant)
        → c.granted n ≡ o → Debt c n ⊎ Free c n c.next → Has c
    by again (Some k) f found = has_record n k f
    by again None f (inl debt) = let later =
        s.later debt.number n debt.slot debt.owes in again debt.number (Local n debt.slot) debt.owes
        (omega (arith, later, most))
    by again None f (inr free) = has_ready (record {
      frame = n;
      returns = r;
      there = e;
      unstolen = f;
      full = λ j x. let d = s.debtor n j x in free d.number j (s.below d.number (Local n j) d.owes) d.owes;
    })

active_has : (c : Content) → Sound c → c.outcome ≡ None → Has c
active_has c s active = let d = s.whole active in up c s c.next d.number Whole d.owes (omega arith)

-- what a live sub of a wanted grant leads to: work, or a record, which is wanted and later
on : (v : View) → Fills v → Later v → (fuel : ℕ)
    → ((k : Grant) → Wanted v k → length v.transfers < born v.transfers k + fuel → Working v) → (g : Grant) → Wanted v g
    → (h : HasHolder v g) → length v.transfers < born v.transfers g + suc fuel → Working v
on v f l fuel again g wanted h less = at h.sub.content.outcome refl
  where
    has : Has h.sub.content → Working v
    has (has_ready ready) = record { grant = g; wanted = wanted; holder = h; work = inr ready }
    has (has_record n k x) =
        let later = l.later g k h.sub.content n (live_cont v h.name g h.sub h.live) x in
        again k (as_record g k h.name h.sub n wanted h.live x) (omega (arith, less, later))

    at : (o : Option (Option ℤ)) → h.sub.content.outcome ≡ o → Working v
    at (Some o) e = record { grant = g; wanted = wanted; holder = h; work = inl (o, e) }
    at None e = has (active_has h.sub.content (f.subs_sound h.name g h.sub (rw h.live.member tt) h.live.holds) e)

-- from a wanted grant to a record of its holder, and on, each later than the one before
search_work : (v : View) → Fills v → Later v → ((g : Grant) → Wanted v g → HasHolder v g) → (fuel : ℕ) (g : Grant)
    → Wanted v g → length v.transfers < born v.transfers g + fuel → Working v
search_work v f l holders zero g wanted less = let most =
    born_within v.transfers g in absurd (omega (arith, most, less))
search_work v f l holders (suc fuel) g wanted less =
    on v f l fuel (λ k w more. search_work v f l holders fuel k w more) g wanted (holders g wanted) less

pub work_somewhere : (v : View) (k : Grant) → ReachedInTables v → v.root ≡ Some k
    → ((g : Grant) → Wanted v g → HasHolder v g) → Working v
work_somewhere v k reached e holders =
    search_work v (fills_reached reached) (later_reached reached) holders (suc (length v.transfers)) k (as_root k e)
    (omega arith)
