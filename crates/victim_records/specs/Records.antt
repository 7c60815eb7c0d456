-- The open records of a subcomputation, by rising grant.
use Rattle.std.specs.Prelude.{ℕ, List, Option, nat_eq, map}
use Rattle.std.specs.List.{filter}
use Rattle.ids.specs.Names.{Grant}
use Rattle.ids.specs.Named.{item_in, put_in, without_in, changed_in}
use Rattle.ids.specs.Naming.{name_of_grant, name_of_record}
use Rattle.ids.specs.declared.work.Record.{Record}

-- the record of a grant
abbrev pub record_in : Grant → List Record → Option Record
record_in g records = item_in name_of_record (name_of_grant g) records

-- with a record in its place
abbrev pub put_record : Record → List Record → List Record
put_record r records = put_in name_of_record r records

-- without the record of a grant
abbrev pub without_record : Grant → List Record → List Record
without_record g records = without_in name_of_record (name_of_grant g) records

-- a record that another worker holds
abbrev pub with_holder : ℕ → Record → Record
with_holder holder r = record r { holder = holder }

-- the record of a grant has another holder, if it is there
abbrev pub renamed : Grant → ℕ → List Record → List Record
renamed g holder records = changed_in name_of_record (with_holder holder) (name_of_grant g) records

-- the grants that a worker holds
abbrev pub grants_of : ℕ → List Record → List Grant
grants_of holder records = map (λ r. r.grant) (filter (λ r. nat_eq r.holder holder) records)
