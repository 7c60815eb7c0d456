-- Children are later: a record's grant was granted after the grant that has the record.
use Rattle.std.specs.Prelude.{◌≡◌, ℕ, ◌<◌, suc, nat_eq, ◌&&◌, if◌then◌else◌, List, [], ◌∷◌, length, Some}
use Rattle.ids.specs.Names.{Grant}
use Rattle.table_laws.specs.Tables.{same_grant}
use Rattle.table_laws.specs.Content.{Content}
use Rattle.table_laws.specs.View.{Transfer, View}
use Rattle.table_laws.specs.Facts.{Cont}

-- the place of g's latest Grant in the net, counted from 1; 0 if there is none
abbrev pub born : List Transfer → Grant → ℕ
born [] g = 0
born (t ∷ transfers) g = if same_grant t.grant g && nat_eq t.hop 0 then suc (length transfers) else born transfers g

pub record Later (v : View) : Type 0 where
  pub later : (g k : Grant) (c : Content) (n : ℕ) → Cont v g c → c.granted n ≡ Some k → born v.transfers g < born v.transfers k
