-- The tables, case by case.
use Rattle.std.proofs.Common.{◌≡◌, ℕ, Bool, true, false, IsSome, refl, rules}
use Rattle.std.specs.Prelude.{if◌then◌else◌}
use Rattle.sci_statistics.specs.declared.kind.Access.TheVariants.{Load, Maker}
use Rattle.sci_words.specs.declared.{event.AskKind.{AskKind}, operation.Op.{Op}}
use Rattle.sci_words.specs.Operation.{is_maker}
use Rattle.sci_home.specs.{declared.state.HomeState.{HomeState}, Serving.{home_serving}}
use Rattle.sci_cache.specs.State.{CacheState, Out, Asking, Head, FreshHead, Below}
use Rattle.sci_cache.specs.{Asking.{asking}, Serving.{serving}, Accepting.{accepting}, Performing.{performing}}
use Rattle.sci_packets.specs.{declared.body.Body.{Body}, Table.{command_of, parts_of}}
use Rattle.sci_statistics.specs.{Kinds.{access_of}, Transitions.{accepts, asks, kind_at_cache, kind_at_home, performs, serves}}
use Rattle.sci_home.specs.declared.state.HomeState.TheVariants as home
use Rattle.sci_packets.specs.declared.body.Body.TheVariants as body
use Rattle.sci_words.specs.declared.event.AskKind.TheVariants as ask

pub asks_listed : (state : CacheState) (kind : AskKind) → IsSome (asking state kind) → asks (kind_at_cache state) kind ≡ true
asks_listed Out ask.Mread some = refl
asks_listed _ _ some = search rules

pub serves_listed : (state : CacheState) (n : ℕ) (request : Body) → IsSome (serving state n request)
    → serves (kind_at_cache state) (command_of request) ≡ true
unfolding parts_of
serves_listed Out n body.Cread some = refl
serves_listed _ n _ some = search rules

pub homes_listed : (state : HomeState) (n : ℕ) (request : Body) → IsSome (home_serving state n request)
    → serves (kind_at_home state) (command_of request) ≡ true
unfolding parts_of
homes_listed (home.Home c) n body.Mread some = refl
homes_listed _ n _ some = search rules

pub accepts_listed : (state : CacheState) (answer : Body) → IsSome (accepting state answer) → accepts (kind_at_cache state) (command_of answer) ≡ true
unfolding parts_of
accepts_listed Asking (body.Mdata c) some = refl
accepts_listed _ _ some = search rules

performs_so : (state : CacheState) (op : Op) (makes : Bool) → is_maker op ≡ makes → IsSome (performing state op)
    → performs (kind_at_cache state) (if makes then Maker else Load) ≡ true
performs_so (Head f c) op true is some = refl
performs_so (Head f c) op false is some = refl
performs_so (FreshHead f c) op true is some = let none = rw is at some in search (rules, none)
performs_so (FreshHead f c) op false is some = refl
performs_so (Below f b c) op true is some = let none = rw is at some in search (rules, none)
performs_so (Below f b c) op false is some = refl
performs_so _ op makes is some = search rules

pub performs_listed : (state : CacheState) (op : Op) → IsSome (performing state op) → performs (kind_at_cache state) (access_of op) ≡ true
performs_listed state op some = performs_so state op (is_maker op) refl some
