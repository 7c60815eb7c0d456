-- A parent host is renamed, or who holds a record's grant.
use Rattle.std.proofs.Common.{◌≡◌, ◌≢◌, ℕ, Option, Some, None, ◌⊎◌, inl, inr, refl, sym, ap, ◌∙◌}
use Rattle.ids.specs.Names.{Grant}
use Rattle.ids.specs.Named.{changed_of}
use Rattle.ids.specs.Naming.{name_of_grant, name_of_record}
use Rattle.ids.specs.declared.work.Record.{Record}
use Rattle.ids.proofs.Replacing.{put_is_found}
use Rattle.victim_records.specs.Records.{record_in, put_record, with_holder}
use Rattle.sub_rules.specs.declared.content.Content.{Content}
use Rattle.sub_rules.specs.Changes.{with_parent, with_thief}
use Rattle.agreement_laws.proofs.Finding.{same_or_other, put_stays, put_or_there}
use Rattle.table_laws.specs.Content.{Content as Tables, rehost}
use Rattle.table_laws.proofs.Lists.{one_found}
use Rattle.content_laws.specs.Shown.{IsUnused, ShowsRecord, Shows}
use Rattle.content_laws.proofs.Apart.{own_grant}

-- the content is shown with its new host
pub parent_shown : (t : Tables) (c : Content) (host : ℕ) → Shows t c → Shows (rehost t host) (with_parent host c)
parent_shown t c host shows = record {
  host = refl;
  task = shows.task;
  next = shows.next;
  outcome = shows.outcome;
  frames = λ n f at. (
      let shown = shows.frames n f at in
      record {
        returns = shown.returns;
        place = shown.place;
        thread = shown.thread;
        slots = shown.slots;
        unstolen = shown.unstolen;
      });
  records = λ g r at. (
      let shown = shows.records g r at in
      record {
        returns = shown.returns;
        holds = record { place = shown.holds.place; thread = shown.holds.thread; numbers = shown.holds.numbers };
        stolen = shown.stolen;
      });
  unused = λ n u. (
      let shown = shows.unused n (record { frame = u.frame; record_of = u.record_of }) in
      record { returns = shown.returns; slots = shown.slots; unstolen = shown.unstolen });
}

-- and the same tables show it with another holder of a grant
pub thief_shown : (t : Tables) (c : Content) (g : Grant) (holder : ℕ) → Shows t c → Shows t (with_thief g holder c)
thief_shown t c g holder shows = by_found (record_in g c.records) refl
  where
    renamed_shown : (x : Record) → record_in x.grant c.records ≡ Some x
        → Shows t (record c { records = put_record (with_holder holder x) c.records })
    renamed_shown x there = record {
      host = shows.host;
      task = shows.task;
      next = shows.next;
      outcome = shows.outcome;
      frames = shows.frames;
      records = λ h y at. by_name h y (put_or_there name_of_record (name_of_grant h)
          (with_holder holder x) y c.records at);
      unused = λ n u. shows.unused n (record { frame = u.frame; record_of = λ h y at same. old n u h y at same });
    }
      where
        by_name : (h : Grant) (y : Record)
            → (((name_of_grant h ≡ name_of_grant x.grant) × (y ≡ with_holder holder x))
            ⊎ ((name_of_grant h ≢ name_of_grant x.grant) × (record_in h c.records ≡ Some y))) → ShowsRecord t y
        by_name h y (inl new) =
            let shown = shows.records x.grant x there in
            rw (new.1) (record { returns = shown.returns; holds = shown.holds; stolen = shown.stolen })
        by_name h y (inr was) = shows.records h y was.1

        old : (n : ℕ) → IsUnused (record c { records = put_record (with_holder holder x) c.records }) n
            → (h : Grant) (y : Record) → record_in h c.records ≡ Some y → y.frame ≡ n → ⊥
        old n u h y at same = by_grant (same_or_other (name_of_grant h) (name_of_grant x.grant))
          where
            by_grant : (name_of_grant h ≡ name_of_grant x.grant) ⊎ (name_of_grant h ≢ name_of_grant x.grant) → ⊥
            by_grant (inl one) =
                let found : record_in x.grant c.records ≡ Some y = rw one at at in
                let is : y ≡ x = one_found found there in
                u.record_of x.grant (with_holder holder x)
                (put_is_found name_of_record (with_holder holder x) c.records)
                (ap (λ (z : Record). z.frame) (sym is) ∙ same)
            by_grant (inr apart) = u.record_of h y
                (put_stays name_of_record (name_of_grant h) (with_holder holder x) c.records apart ∙ at) same

    by_found : (o : Option Record) → record_in g c.records ≡ o
        → Shows t (record c { records = changed_of name_of_record (with_holder holder) c.records o })
    by_found None is = shows
    by_found (Some x) is = renamed_shown x (let own = own_grant g x c.records is in rw own at is)
