-- The steps, from what their parts promise.
use Rattle.std.proofs.Common.{◌≡◌, ℕ, ◌+◌, ◌<◌, ◌≤◌, ◌∷◌, List, sym, refl, subst, add-one}
use Rattle.network.specs.Network.{Network}
use Rattle.tree.specs.Tree.{Tree}
use Rattle.walk.specs.declared.frame.Frame.{Frame}
use Rattle.walk.specs.State.{Shelf, Core, State, Changed, counted, shelved}
use Rattle.walk.specs.Steps.{Going, Taken, Step, visit, expand, again, rise}
use Rattle.settling.specs.Asks.{Visited}
use Rattle.settling.specs.Parts.{FoundEmpty}
use Rattle.settling.specs.Turns.{Entered, again as entered_again, first as entered_first}

module _ (g : Network) (t : Tree) (s : Core) (f : Frame) (fs : List Frame) (going : Going t s f) where
  abbrev before : State
  before = record { core = s; frames = f ∷ fs }

  -- the bucket was empty
  pub step_rise : (s₁ : Core) (count' : ℕ → ℕ) → s₁ ≡ s → FoundEmpty t s f.node s₁.shelf → Changed s₁.count f.node (s₁.count f.node + 1) count'
      → Step g t before (record { core = counted s₁ count'; frames = f ∷ fs })
  step_rise s₁ count' same found ch =
      subst (λ (z : Core). Step g t before (record { core = counted z count'; frames = f ∷ fs })) (sym same)
      (rise f fs found.k count' refl going found.now found.bare
      (subst (λ (n : ℕ). Changed s.count f.node n count') (add-one (s.count f.node))
      (subst (λ (z : Core). Changed z.count f.node (z.count f.node + 1) count') same ch)))

  -- the station v was taken
  pub step_visit : (v : ℕ) (s₁ s' : Core) (h₁ : Shelf) → Taken t s f.node v h₁ → s₁ ≡ shelved s h₁ → v < t.stations → Visited g t v s₁ s'
      → Step g t before (record { core = s'; frames = f ∷ fs })
  step_visit v s₁ s' h₁ taken same st visited =
      let vis = subst (λ (z : Core). Visited g t v z s') same visited in
      visit v vis.d s' (record {
        f = f;
        fs = fs;
        top = refl;
        going = going;
        h' = h₁;
        taken = taken;
        station = st;
        final' = vis.final;
        so_far' = vis.so_far;
        call = record { known = vis.call.known; final = vis.call.final; so_far = vis.call.so_far };
        links = vis.links;
      })

  -- the inner node c was taken
  entered_after : (c : ℕ) (s' : Core) (h₁ : Shelf) (e : Frame) → Taken t s f.node c h₁ → t.stations ≤ c → Entered t c f.node (shelved s h₁) s' e
      → Step g t before (record { core = s'; frames = e ∷ f ∷ fs })
  entered_after c s' h₁ e taken inner (entered_again β based es er) =
      subst (λ (x : State). Step g t before x) (λ i. record { core = sym es i; frames = sym er i ∷ f ∷ fs })
      (again f fs c β h₁ refl going taken inner based)
  entered_after c s' h₁ e taken inner (entered_first shut gr er) =
      subst (λ (x : State). Step g t before x) (λ i. record { core = sym gr.rest i; frames = sym er i ∷ f ∷ fs })
      (expand f fs c gr.d h₁ s'.base s'.count s'.shelf refl going taken inner shut
      (record { lowest = gr.expand.lowest; base = gr.expand.base; count = gr.expand.count; puts = gr.expand.puts }))

  pub step_enter : (c : ℕ) (s₁ s' : Core) (h₁ : Shelf) (e : Frame) → Taken t s f.node c h₁ → s₁ ≡ shelved s h₁ → t.stations ≤ c → Entered t c f.node s₁ s' e
      → Step g t before (record { core = s'; frames = e ∷ f ∷ fs })
  step_enter c s₁ s' h₁ e taken same inner entered =
      entered_after c s' h₁ e taken inner (subst (λ (z : Core). Entered t c f.node z s' e) same entered)
