-- What holds of the rosters that workers are told.
use Rattle.std.specs.Prelude.{ℕ, ◌&&◌, Bool, true, not, nat_eq}
use Rattle.ids.specs.declared.member.Member.{Member}
use Rattle.ids.specs.declared.member.Status.{Status}
use Rattle.ids.specs.declared.member.Status.TheVariants.{Live, Dead, Left}
use Rattle.packet_fields.specs.Format.{of_part}
use Rattle.packet_fields.specs.Fields.{heir_in, worker}

-- whether a worker isn't its own heir
abbrev pub has_another : ℕ → Status → Bool
has_another i Live = true
has_another i Dead = true
has_another i (Left heir) = not (nat_eq heir i)

-- whether the words of a member and of its heir, if it has one, are those of workers
abbrev pub names_workers : Member → Bool
names_workers m = worker.fits m.incarnation && of_part true worker.fits (heir_in m.status)
