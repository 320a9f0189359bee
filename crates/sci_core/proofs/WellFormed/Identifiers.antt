-- Each row of the tables makes identifiers of nodes from identifiers of nodes.
use Rattle.std.proofs.Common.{◌≡◌, ℕ, ◌<◌, true, false, None, rules}
use Rattle.std.specs.Prelude.{IfSome}
use Rattle.sci_words.specs.declared.{event.AskKind.{AskKind}, operation.Op.{Op}}
use Rattle.sci_packets.specs.{declared.body.Body.{Body}, Table.{is_request}}
use Rattle.sci_home.specs.{declared.state.HomeState.{HomeState}, Serving.{IsForHome, home_serving as serving_at_home}}
use Rattle.sci_cache.specs.State.{CacheState, Asking, Joining, FreshJoining, Head, FreshHead, Rolling, Telling}
use Rattle.sci_cache.specs.{Asking.{Asked, asking}, Serving.{serving}, Accepting.{accepting}}
use Rattle.sci_cache.specs.Performing.{Performed, performing}
use Rattle.sci_core.specs.WellFormed.{IsBelow, NamesNodes, HomeNamesNodes, BodyNamesNodes}
use Rattle.sci_core.proofs.Shape.Standings.{performing_keeps}
use Rattle.sci_words.specs.declared.event.AskKind.TheVariants as kind
use Rattle.sci_packets.specs.declared.body.Body.TheVariants as body
use Rattle.sci_home.specs.declared.state.HomeState.TheVariants as home

pub record AsksWell (nodes : ℕ) (asked : Asked) : Type 0 where
  pub next : NamesNodes nodes asked.next
  pub to : IsBelow nodes asked.to
  pub names : BodyNamesNodes nodes asked.request
  pub asks : is_request asked.request ≡ true
  pub home : IsForHome asked.request → asked.to ≡ None

pub asking_names : (nodes : ℕ) (state : CacheState) (k : AskKind) → NamesNodes nodes state → IfSome (asking state k) (AsksWell nodes)
asking_names nodes (Joining p false) kind.Cread h = search rules
asking_names nodes (FreshJoining p false c) kind.Cread h = search rules
asking_names nodes (Head None c) kind.Wback h = search rules
asking_names nodes (FreshHead None c) kind.Clear h = search rules
asking_names nodes (Telling r w false) kind.Setback h = search rules
asking_names nodes _ kind.Mread h = search rules
asking_names nodes _ _ h = search rules

pub record ServesWell (nodes : ℕ) (served : CacheState × Body) : Type 0 where
  pub next : NamesNodes nodes served.0
  pub names : BodyNamesNodes nodes served.1
  pub answers : is_request served.1 ≡ false

pub serving_names : (nodes : ℕ) (state : CacheState) (n : ℕ) (request : Body) → n < nodes → NamesNodes nodes state → BodyNamesNodes nodes request
    → IfSome (serving state n request) (ServesWell nodes)
serving_names nodes (Head f c) n body.Cread lt h k = search rules
serving_names nodes _ n body.Cread lt h k = search rules
serving_names nodes _ n _ lt h k = search rules

pub record HomeServesWell (nodes : ℕ) (served : HomeState × Body) : Type 0 where
  pub next : HomeNamesNodes nodes served.0
  pub names : BodyNamesNodes nodes served.1
  pub answers : is_request served.1 ≡ false

pub home_names : (nodes : ℕ) (state : HomeState) (n : ℕ) (request : Body) → n < nodes → HomeNamesNodes nodes state
    → IfSome (serving_at_home state n request) (HomeServesWell nodes)
home_names nodes (home.Home c) n body.Mread lt h = search rules
home_names nodes _ n body.Mread lt h = search rules
home_names nodes _ n _ lt h = search rules

pub accepting_names : (nodes : ℕ) (state : CacheState) (answer : Body) → NamesNodes nodes state → BodyNamesNodes nodes answer
    → IfSome (accepting state answer) (NamesNodes nodes)
accepting_names nodes Asking (body.Fdata None d) h k = search rules
accepting_names nodes (Joining p true) body.Busy h k = search rules
accepting_names nodes (FreshJoining p true d) body.Busy h k = search rules
accepting_names nodes (Rolling None b d) body.Rolled h k = search rules
accepting_names nodes (Telling r w true) body.Busy h k = search rules
accepting_names nodes _ body.Busy h k = search rules
accepting_names nodes _ _ h k = search rules

pub performing_names : (nodes : ℕ) (state : CacheState) (op : Op) → NamesNodes nodes state
    → IfSome (performing state op) (λ (d : Performed). NamesNodes nodes d.next)
performing_names nodes state op h = performing_keeps (NamesNodes nodes) state op h (λ c d e. tt)
