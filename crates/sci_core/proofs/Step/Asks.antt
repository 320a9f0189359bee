-- What a node asks is what its cache asks, and what it serves at a home is what that home serves.
use Rattle.std.proofs.Common.{◌≡◌, ℕ, ◌<◌, Bool, true, false, if◌then◌else◌, Some, None, Ok, Err, Result, Option, set, refl, ap, ◌∙◌, sym, arith}
use Rattle.std.proofs.lemmas.Bool.{lt-ltb}
use Rattle.std.specs.Prelude.{IsOk, IfSome, IsSome}
use Rattle.sci_cache.specs.{declared.fault.AskFault.{AskFault}, Cache.{CacheOf, Letter, letter_of, cache_asking}}
use Rattle.sci_words.specs.declared.event.AskKind.{AskKind}
use Rattle.sci_packets.specs.declared.{body.Body.{Body}, packet.Packet.{Packet}}
use Rattle.sci_home.specs.{declared.state.HomeState.{HomeState}, Serving.{home_serving}}
use Rattle.sci_core.specs.Node.{NodeOf, lines_of, home_of, home_place, asked_by, node_asking, served_at_home, serving_at_home}
use Rattle.sci_core.proofs.Step.Stepping.{if_true}

pub asked_node : (node : NodeOf) (line : ℕ) (kind : AskKind) (next : CacheOf) (letter : Letter) → line < lines_of node
    → cache_asking node.cache line kind ≡ Ok (next, letter)
    → node_asking node line kind ≡ Some (record node { cache = next }, letter)
asked_node node line kind next letter below e =
    if_true _ (asked_by node (cache_asking node.cache line kind)) None (lt-ltb line (lines_of node) below) ∙ ap (asked_by node) e

pub asked_some : (node : NodeOf) (line : ℕ) (kind : AskKind) (result : Option Packet) → line < lines_of node
    → IfSome result (λ packet. (next : CacheOf) × (cache_asking node.cache line kind ≡ Ok (next, letter_of packet)))
    → IfSome result (λ packet. (next : NodeOf) × (node_asking node line kind ≡ Some (next, letter_of packet)))
asked_some node line kind None below h = h
asked_some node line kind (Some packet) below h = (record node { cache = h.0 }, asked_node node line kind h.0 (letter_of packet) below h.1)

-- an ask that a node may make is about a line of its cache, which makes it
may_ask_by : (node : NodeOf) (below : Bool) (made : Result (CacheOf × Letter) AskFault) → IsSome (if below then asked_by node made else None)
    → (below ≡ true) × IsOk made
may_ask_by node true (Ok asked) h = (refl, refl)
may_ask_by node true (Err fault) h = cc
may_ask_by node false made h = cc

pub may_ask : (node : NodeOf) (line : ℕ) (kind : AskKind) → IsSome (node_asking node line kind)
    → (line < lines_of node) × IsOk (cache_asking node.cache line kind)
may_ask node line kind h = grind (arith, may_ask_by)

pub home_served : (node : NodeOf) (request : Letter) (home next : HomeState) (answer : Body) → home ≡ home_of node request.line
    → home_serving home request.source request.body ≡ Some (next, answer)
    → serving_at_home node request ≡ Some (record node { homes = set node.homes (home_place node request.line) next }, answer)
home_served node request home next answer is e =
    ap (served_at_home node request.line) (ap (λ (h : HomeState). home_serving h request.source request.body) (sym is) ∙ e)
