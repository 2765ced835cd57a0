-- The stations in memory, each with the label of its group.
use Rattle.std.specs.Prelude.{ℕ, ◌==◌, if◌then◌else◌, List, slice_index_or}
use Rattle.making.specs.declared.groups.Member.{Member}

-- a station by itself; what is no station is one too
abbrev pub alone : ℕ → Member
alone u = record { label = u; before = u; sum = 0 }

-- the label of u, and the one that it had before the level in hand; what is no station has itself
abbrev pub label_of : List Member → ℕ → ℕ
label_of members u = (slice_index_or members u (alone u)).label

abbrev pub before_of : List Member → ℕ → ℕ
before_of members u = (slice_index_or members u (alone u)).before

-- how long the joining links inside the group of the label u take together
abbrev pub sum_of : List Member → ℕ → ℕ
sum_of members u = (slice_index_or members u (alone u)).sum

-- its label is kept as the one before
abbrev pub kept : Member → Member
kept m = record { label = m.label; before = m.label; sum = m.sum }

-- where its label was hi, it is lo
abbrev pub relabelled : ℕ → ℕ → Member → Member
relabelled hi lo m = record { label = (if m.label == hi then lo else m.label); before = m.before; sum = m.sum }
