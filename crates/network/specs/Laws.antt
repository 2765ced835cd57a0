-- What is proved of the words, for every network g. Each group of laws is the contract of the function of src/laws.rt that has its name.
use Rattle.std.specs.Prelude.{◌≡◌, ℕ, suc, ◌+◌, ◌*◌, ◌/◌, ◌^◌, ◌<◌, ◌≤◌, Bool, true, false, ◌≢◌, ◌⊎◌, ◌↔◌, List, [], ◌∷◌, ◌++◌, reverse, length, Some, None, Option, slice_index_or}
use Rattle.network.specs.Levels.{IsLevel}
use Rattle.network.specs.Lists.{Among, Distinct, Inside}
use Rattle.network.specs.Network.{Network, Proper, Hop, Route, NoRoute, Attained, Least, Each, Joined, Small, Under, Group, Joint, row, delay, sum}
use Rattle.network.specs.Next.{Done, Known, Bucketed, Next, Visited, Passes}
use Rattle.network.specs.Picked.{Settled, Picked}

pub record RoutesJoinAndTurn (g : Network) : Type 0 where
  -- the empty route leads from a station to itself
  pub empty : (a : ℕ) → Route g a [] a
  -- a link in service is a route, and a route has only links in service
  pub link : (k : ℕ) → k < length g.rows → slice_index_or g.service k false ≡ true → Route g (row g k).from (k ∷ []) (row g k).to
  pub in_service : (a b : ℕ) (ks : List ℕ) → Route g a ks b → Each (λ k. (k < length g.rows) × (slice_index_or g.service k false ≡ true)) ks
  -- one route after another is a route, and so is a route backwards
  pub join : (a b c : ℕ) (ks ls : List ℕ) → Route g a ks b → Route g b ls c → Route g a (ks ++ ls) c
  pub turn : (a b : ℕ) (ks : List ℕ) → Route g a ks b → Route g b (reverse ks) a
  -- with these sums
  pub empty_sum : sum g [] ≡ 0
  pub link_sum : (k : ℕ) → sum g (k ∷ []) ≡ delay g k
  pub join_sum : (ks ls : List ℕ) → sum g (ks ++ ls) ≡ sum g ks + sum g ls
  pub turn_sum : (ks : List ℕ) → sum g (reverse ks) ≡ sum g ks
  -- a delay is attained if it is the sum of a route, and only then
  pub attained : (a b d : ℕ) → Attained g a b d ↔ ((ks : List ℕ) × Route g a ks b × (sum g ks ≡ d))

pub record LeastDelayIsADistance (g : Network) : Type 0 where
  pub unique : (a b x y : ℕ) → Least g a b x → Least g a b y → x ≡ y
  pub self : (a : ℕ) → Least g a a 0
  pub positive : (a b : ℕ) → Proper g → Least g a b 0 → a ≡ b
  pub symmetric : (a b x : ℕ) → Least g a b x → Least g b a x
  pub triangle : (a b c x y z : ℕ) → Least g a b x → Least g b c y → Least g a c z → z ≤ x + y

pub record ARouteGivesALeastOne (g : Network) : Type 0 where
  -- where there is a route, there is a least delay
  pub exists : (a b : ℕ) (ks : List ℕ) → Proper g → Route g a ks b → (d : ℕ) × Least g a b d
  -- two stations have no route or a least delay: one of the two, and not both
  pub either : (a b : ℕ) → Proper g → NoRoute g a b ⊎ ((d : ℕ) × Least g a b d)
  pub not_both : (a b d : ℕ) → NoRoute g a b → ¬ Attained g a b d

-- a route from a to b over some of the links ks, none of them twice, that takes no longer
pub record Cut (g : Network) (a b : ℕ) (ks : List ℕ) : Type 0 where
  pub links : List ℕ
  pub route : Route g a links b
  pub distinct : Distinct links
  pub inside : Inside links ks
  pub shorter : sum g links ≤ sum g ks

pub record LinksOnceSumBelow (g : Network) : Type 0 where
  -- links out of ls, none of them twice, take no longer than all of ls
  pub once : (ks ls : List ℕ) → Distinct ks → Inside ks ls → sum g ks ≤ sum g ls
  -- every route can be cut to such a one
  pub cut : (a b : ℕ) (ks : List ℕ) → Route g a ks b → Cut g a b ks
  -- so stations that links out of ls join are no further apart than all of ls together
  pub drawn : (a b d : ℕ) (ls : List ℕ) → Joined g (λ k. Among k ls) a b → Least g a b d → d ≤ sum g ls

-- no link takes more than a link record can say
abbrev pub Bounded : Network → Type 0
Bounded g = (k : ℕ) → k < length g.rows → delay g k ≤ 4294967295

pub record LeastIsBounded (g : Network) : Type 0 where
  -- a route with the least sum has fewer links than there are stations
  pub few : (a b d : ℕ) (ks : List ℕ) → Proper g → a < g.stations → Least g a b d → Route g a ks b → sum g ks ≡ d → length ks < g.stations
  -- so among 512 stations at most no least delay is above 511 times the most that a link takes
  pub bounded : (a b d : ℕ) → Proper g → Bounded g → g.stations ≤ 512 → Least g a b d → d ≤ 511 * 4294967295

pub record UnderIsAnEquivalence (g : Network) : Type 0 where
  pub self : (i a : ℕ) → Under g i a a
  pub symmetric : (i a b : ℕ) → Under g i a b → Under g i b a
  pub transitive : (i a b c : ℕ) → Under g i a b → Under g i b c → Under g i a c
  -- it grows with i
  pub grows : (i j a b : ℕ) → i ≤ j → Under g i a b → Under g j a b
  -- a link is under 2 ^ i exactly if its level is i or less
  pub level : (i k l : ℕ) → IsLevel (delay g k) l → Small g i k ↔ l ≤ i

-- where no route from a to b has every link under 2 ^ i, every route from a to b takes 2 ^ i or more
abbrev pub ApartMeansLong : Network → Type 0
ApartMeansLong g = (i a b : ℕ) → ¬ Under g i a b → (ks : List ℕ) → Route g a ks b → 2 ^ i ≤ sum g ks

-- a set of stations is given here by a test
abbrev pub GroupOf : Network → ℕ → (ℕ → Bool) → Type 0
GroupOf g i test = Group g i (λ a. test a ≡ true)

pub record StationsFallIntoGroups (g : Network) : Type 0 where
  -- the stations that links under 2 ^ i join with a are a group
  pub around : (i a : ℕ) → a < g.stations → Group g i (λ b. (b < g.stations) × Under g i a b)
  -- and a group is just the stations that they join with its member
  pub whole : (i : ℕ) (test : ℕ → Bool) (group : GroupOf g i test) (b : ℕ) → (test b ≡ true) ↔ ((b < g.stations) × Under g i group.member b)
  -- two groups of one level that share a station a are the same
  pub same : (i a : ℕ) (one other : ℕ → Bool) → GroupOf g i one → GroupOf g i other → one a ≡ true → other a ≡ true → (b : ℕ) → one b ≡ other b
  -- and of two levels, the one of the lower lies in that of the higher
  pub nested :
      (i j a : ℕ) (low high : ℕ → Bool) → i ≤ j → GroupOf g i low → GroupOf g j high → low a ≡ true → high a ≡ true
      → (b : ℕ) → low b ≡ true → high b ≡ true
  -- a link that leads out of a group takes 2 ^ i or more
  pub cut : (i k a b : ℕ) (test : ℕ → Bool) → GroupOf g i test → Proper g → Hop g k a b → test a ≡ true → test b ≡ false → 2 ^ i ≤ delay g k

pub record JointLevelIsADistance (g : Network) : Type 0 where
  pub unique : (a b i j : ℕ) → Joint g a b i → Joint g a b j → i ≡ j
  pub exists : (a b : ℕ) (ks : List ℕ) → Proper g → Route g a ks b → (i : ℕ) × Joint g a b i
  pub symmetric : (a b i : ℕ) → Joint g a b i → Joint g b a i
  pub zero : (a b : ℕ) → Proper g → Joint g a b 0 ↔ a ≡ b
  -- by way of a third station it is at most the higher of the two
  pub between : (a b c i j l : ℕ) → Joint g a b i → Joint g b c j → Joint g a c l → (l ≤ i) ⊎ (l ≤ j)
  -- no route takes less than half of 2 ^ level
  pub long : (a b i : ℕ) (ks : List ℕ) → Joint g a b (suc i) → Route g a ks b → 2 ^ i ≤ sum g ks
  -- and 32 is the highest
  pub highest : (a b i : ℕ) → Bounded g → Joint g a b i → i ≤ 32

-- the least delays from s, none where no route leads
pub record EachSourceHasItsDelays (g : Network) (s : ℕ) : Type 0 where
  pub exists : Proper g → (delays : ℕ → Option ℕ) × Settled g s delays
  pub unique : (one other : ℕ → Option ℕ) → Settled g s one → Settled g s other → (t : ℕ) → one t ≡ other t
  pub source : (delays : ℕ → Option ℕ) → Settled g s delays → delays s ≡ Some 0

pub record PickedRouteStands (g : Network) (delays : ℕ → Option ℕ) (s : ℕ) : Type 0 where
  -- to a station there is one at most, whatever the delays
  pub unique : (t : ℕ) (ks ls : List ℕ) → Picked g delays s ks t → Picked g delays s ls t → ks ≡ ls
  -- where they are the least delays from s: there is one to each station with a delay, and none to another
  pub exists : (t d : ℕ) → Proper g → Settled g s delays → delays t ≡ Some d → (ks : List ℕ) × Picked g delays s ks t
  pub none : (t : ℕ) (ks : List ℕ) → Settled g s delays → delays t ≡ None → ¬ Picked g delays s ks t
  -- it is a route in service, with that delay as its sum, of fewer links than there are stations
  pub route : (t d : ℕ) (ks : List ℕ) → Settled g s delays → delays t ≡ Some d → Picked g delays s ks t → Route g s ks t × (sum g ks ≡ d)
  pub few : (t d : ℕ) (ks : List ℕ) → Proper g → s < g.stations → Settled g s delays → delays t ≡ Some d → Picked g delays s ks t → length ks < g.stations
  -- and of all least routes to t none ends in a link with a lower number
  pub lowest :
      (t d k j : ℕ) (ks ls : List ℕ) → Settled g s delays → delays t ≡ Some d → Picked g delays s (ks ++ (k ∷ [])) t
      → Route g s (ls ++ (j ∷ [])) t → sum g (ls ++ (j ∷ [])) ≡ d → k ≤ j

-- here a function gives each station its delay, or none
abbrev pub At : (ℕ → Option ℕ) → ℕ → ℕ → Type 0
At f u x = f u ≡ Some x

pub record NextVisitedIsLeast (g : Network) (s : ℕ) (final tentative : ℕ → Option ℕ) : Type 0 where
  -- a walk begins with the source at 0, and a visit keeps what it knows
  pub begin : ((w : ℕ) → final w ≡ None) → tentative s ≡ Some 0 → ((u : ℕ) → u ≢ s → tentative u ≡ None) → Known g s (At final) (At tentative)
  pub visit :
      (v x : ℕ) (final' tentative' : ℕ → Option ℕ) → Known g s (At final) (At tentative) → Next g (At final) (At tentative) v x
      → Visited g v x (At final) (At tentative) (At final') (At tentative') → Known g s (At final') (At tentative')
  -- the station that may be visited next is at its least delay
  pub least : (v x : ℕ) → Known g s (At final) (At tentative) → Next g (At final) (At tentative) v x → Least g s v x
  -- against a station at the joint level i + 1 it is enough to be in no later bucket of width 2 ^ i; against one with no route to it nothing is asked
  pub joint : (u v x y i : ℕ) → Joint g u v (suc i) → x / 2 ^ i ≤ y / 2 ^ i → Bucketed g u v x y
  pub apart : (u v x y : ℕ) → NoRoute g u v → Bucketed g u v x y
  -- a route from the source leads to a visited station, or comes by one with a tentative delay
  pub passes : (v : ℕ) (ks : List ℕ) → Known g s (At final) (At tentative) → Route g s ks v → Done (At final) v ⊎ Passes g (At tentative) v (sum g ks)
  -- so where none is left, every station with a route has been visited
  pub all : (v : ℕ) (ks : List ℕ) → Known g s (At final) (At tentative) → ((u y : ℕ) → ¬ At tentative u y) → Route g s ks v → Done (At final) v
