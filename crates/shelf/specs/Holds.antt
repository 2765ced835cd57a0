-- What a shelf holds. A shelf is what the field calls a bucket queue: items that stand in numbered buckets or nowhere.
use Rattle.std.specs.Prelude.{◌≡◌, ℕ, ◌+◌, ◌<◌, List, replicate, Some, None, Option, ◌≢◌, slice_index_or, slice_set}

-- at: for each item its bucket, or None for nowhere; puts: how many puts were done since the last clear
pub record Holds : Type 0 where
  pub items : ℕ
  pub buckets : ℕ
  pub at : List (Option ℕ)
  pub puts : ℕ

-- the bucket of the item i; an item that does not exist is nowhere
abbrev pub bucket_at : Holds → ℕ → Option ℕ
bucket_at h i = slice_index_or h.at i None

-- a shelf of so many items and buckets with every item nowhere and no put done
abbrev pub all_nowhere : ℕ → ℕ → Holds
all_nowhere items buckets = record { items = items; buckets = buckets; at = replicate items None; puts = 0 }

-- all items are sent nowhere, and the count begins again
abbrev pub cleared : Holds → Holds
cleared h = all_nowhere h.items h.buckets

-- the count begins again, and each item stays where it stands
abbrev pub uncounted : Holds → Holds
uncounted h = record { items = h.items; buckets = h.buckets; at = h.at; puts = 0 }

-- the item i is sent nowhere: where it does not exist or is nowhere already, nothing changes
abbrev pub lifted : Holds → ℕ → Holds
lifted h i = record { items = h.items; buckets = h.buckets; at = slice_set h.at i None; puts = h.puts }

-- the item i is put into the bucket b, and the put is counted
abbrev pub placed : Holds → ℕ → ℕ → Holds
placed h i b = record { items = h.items; buckets = h.buckets; at = slice_set h.at i (Some b); puts = h.puts + 1 }

-- when a put is done: both exist, the item is nowhere, and there is room in the count
abbrev pub MayPut : Holds → ℕ → ℕ → Type 0
MayPut h i b = (i < h.items) × (b < h.buckets) × (bucket_at h i ≡ None) × (h.puts < 65535)

-- no item stands in the bucket b
abbrev pub Bare : Holds → ℕ → Type 0
Bare h b = (i : ℕ) → bucket_at h i ≢ Some b
