-- Frames and records of a content that is shown have different numbers.
use Rattle.std.proofs.Common.{◌≡◌, ◌≢◌, ℕ, List, Some, sym, ap, ◌∙◌}
use Rattle.ids.specs.Names.{Grant}
use Rattle.ids.specs.Named.{Name}
use Rattle.ids.specs.Naming.{name_of_grant, name_of_record}
use Rattle.ids.specs.declared.work.Frame.{Frame}
use Rattle.ids.specs.declared.work.Record.{Record}
use Rattle.frames.specs.Frames.{frame_in}
use Rattle.victim_records.specs.Records.{record_in}
use Rattle.sub_rules.specs.declared.content.Content.{Content}
use Rattle.sub_rules.proofs.Sums.{found_name}
use Rattle.sub_rules.proofs.Departures.{frame_number}
use Rattle.table_laws.specs.Content.{Content as Tables}
use Rattle.table_laws.proofs.Lists.{none_some, one_found}
use Rattle.content_laws.specs.Shown.{ShowsFrame, ShowsRecord, Shows}

-- a frame is found under its number
pub own_number : (n : ℕ) (f : Frame) (frames : List Frame) → frame_in n frames ≡ Some f
    → frame_in f.number frames ≡ Some f
own_number n f frames there = rw (frame_number n f frames there) at there

-- other numbers are other names
pub other_name : (m n : ℕ) → m ≢ n → ◌≢◌ {A = Name} (m, 0) (n, 0)
other_name m n other same = other (ap (λ (name : Name). name.0) same)

-- and equal numbers equal ones
pub same_name : (m n : ℕ) → m ≡ n → ◌≡◌ {A = Name} (m, 0) (n, 0)
same_name m n same = ap (λ (k : ℕ). let name : Name = (k, 0) in name) same

-- a grant is told by its name
pub grant_named : (g h : Grant) → name_of_grant g ≡ name_of_grant h → g ≡ h
grant_named g h same = ap (λ (name : Name). let k : Grant = record { minter = name.0; number = name.1 } in k) same

-- the grant under which a record is found is its own
pub own_grant : (g : Grant) (x : Record) (records : List Record) → record_in g records ≡ Some x → g ≡ x.grant
own_grant g x records there = grant_named g x.grant (found_name name_of_record (name_of_grant g) x records there)

-- a record's number is that of no frame
pub stolen_apart : (t : Tables) (f : Frame) (x : Record) → ShowsFrame t f → ShowsRecord t x → x.frame ≢ f.number
stolen_apart t f x frame stolen same = none_some frame.unstolen (rw same at stolen.stolen)

-- records of other grants have other numbers
pub records_apart : (t : Tables) (c : Content) (g h : Grant) (x y : Record) → Shows t c → record_in g c.records ≡ Some x
    → record_in h c.records ≡ Some y → name_of_grant g ≢ name_of_grant h → x.frame ≢ y.frame
records_apart t c g h x y shows here there other same =
    let first : t.granted y.frame ≡ Some x.grant = rw same at (shows.records g x here).stolen in
    let grants : x.grant ≡ y.grant = one_found first (shows.records h y there).stolen in
    other (ap name_of_grant (own_grant g x c.records here ∙ grants ∙ sym (own_grant h y c.records there)))
