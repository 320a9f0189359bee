-- A new node whose homes are told, line by line, what those of another know.
use Rattle.std.proofs.Common.{◌≡◌, ℕ, zero, suc, ◌+◌, ◌*◌, ◌/◌, ◌%◌, ◌<◌, ◌≤◌, length, get_or, set, length-set, replicate, refl, sym, ap, subst, ◌∙◌}
use Rattle.std.proofs.Common.{arith, inl, inr}
use Rattle.std.proofs.lemmas.{Bool.{cases_eq}, List.{get_or-set_other, get_or-set_same, length-replicate}}
use Rattle.std.proofs.Math.Nat.{div-add-mod, div-lt_iff_lt-mul, mod-lt}
use Rattle.sci_home.specs.{declared.state.HomeState.{HomeState}, Serving.{opening_home}}
use Rattle.sci_core.specs.Size.{Size}
use Rattle.sci_core.specs.Node.{NodeOf, home_of, home_place, lines_of, opening_node}
use Rattle.sci_c.specs.Starting.{HasHomes, IsFresh, size_with, with_home}

-- what is made so far: the homes of the lines below one are as the node's, and the others untouched
pub record IsMade (node : NodeOf) (limit : ℕ) (fresh : NodeOf) (line : ℕ) : Type 0 where
  pub is_fresh : IsFresh node limit fresh
  pub long : length fresh.homes ≡ lines_of node / node.cache.nodes + 1
  pub done : (k : ℕ) → k < line → k % node.cache.nodes ≡ node.cache.me → home_of fresh k ≡ home_of node k
  pub left : (k : ℕ) → line ≤ k → k % node.cache.nodes ≡ node.cache.me → home_of fresh k ≡ opening_home

untouched : (count place : ℕ) → get_or (replicate count opening_home) place opening_home ≡ opening_home
untouched zero place = refl
untouched (suc count) zero = refl
untouched (suc count) (suc place) = untouched count place

made_none : (node : NodeOf) (limit : ℕ) → IsMade node limit (opening_node node.cache.me (size_with node limit)) 0
made_none node limit = record {
  is_fresh = refl;
  long = length-replicate (lines_of node / node.cache.nodes + 1) opening_home;
  done = λ k lt mine. absurd (omega arith);
  left = λ k le mine. untouched (lines_of node / node.cache.nodes + 1) (k / node.cache.nodes);
}

same_size : (a b : Size) → a.nodes ≡ b.nodes → a.lines ≡ b.lines → a.slots ≡ b.slots → a.limit ≡ b.limit → a ≡ b
same_size a b nodes lines slots limits = grind arith

-- the new node that was asked for
pub made_first : (node fresh : NodeOf) (limit me : ℕ) (size : Size) → fresh ≡ opening_node me size → me ≡ node.cache.me → size.nodes ≡ node.cache.nodes
    → size.lines ≡ lines_of node → size.slots ≡ node.cache.slots → size.limit ≡ limit → IsMade node limit fresh 0
made_first node fresh limit me size is mine nodes lines slots limits =
    let sizes : size ≡ size_with node limit = same_size size (size_with node limit) nodes lines slots limits in
    let whole : fresh ≡ opening_node node.cache.me (size_with node limit) =
    is ∙ (ap (λ (m : ℕ). opening_node m size) mine ∙ ap (opening_node node.cache.me) sizes) in
    subst (λ (f : NodeOf). IsMade node limit f 0) (sym whole) (made_none node limit)

-- two lines whose homes are at one node have other places
other_place : (nodes k line : ℕ) → k % nodes ≡ line % nodes → (k ≡ line → ⊥) → k / nodes ≡ line / nodes → ⊥
other_place nodes k line rest differ same =
    let a = div-add-mod k nodes in
    let b = div-add-mod line nodes in
    let c : nodes * (k / nodes) ≡ nodes * (line / nodes) = ap (λ (q : ℕ). nodes * q) same in
    differ (omega arith)

-- the place of a line's home is at most that of the number of lines
place_low : (nodes line lines : ℕ) → 0 < nodes → line < lines → line / nodes < lines / nodes + 1
place_low nodes line lines some lt =
    let whole = div-add-mod lines nodes in
    let rest = mod-lt lines some in
    let product : (lines / nodes + 1) * nodes ≡ nodes * (lines / nodes) + nodes = grind arith in
    (div-lt_iff_lt-mul some).1 (omega arith)

pub room_for : (node fresh : NodeOf) (limit line : ℕ) → 0 < node.cache.nodes → IsMade node limit fresh line → line < lines_of node
    → home_place fresh line < length fresh.homes
room_for node fresh limit line some made lt =
    let nodes : fresh.cache.nodes ≡ node.cache.nodes = ap (λ (n : NodeOf). n.cache.nodes) made.is_fresh in
    let place : line / fresh.cache.nodes ≡ line / node.cache.nodes = ap (λ (k : ℕ). line / k) nodes in
    let low = place_low node.cache.nodes line (lines_of node) some lt in
    let long = made.long in
    omega arith

places : (n m k line : ℕ) → n ≡ m → k / n ≡ line / n → k / m ≡ line / m
places n m k line same e = subst (λ (x : ℕ). k / x ≡ line / x) same e

pub made_next : (node fresh : NodeOf) (limit line : ℕ) (state : HomeState) → 0 < node.cache.nodes → IsMade node limit fresh line → line < lines_of node
    → line % node.cache.nodes ≡ node.cache.me → state ≡ home_of node line → IsMade node limit (with_home fresh line state) (line + 1)
made_next node fresh limit line state some made lt mine is =
    let nodes : fresh.cache.nodes ≡ node.cache.nodes = ap (λ (n : NodeOf). n.cache.nodes) made.is_fresh in
    let place = home_place fresh line in
    let room = room_for node fresh limit line some made lt in
    record {
      is_fresh = ap (λ (n : NodeOf). record n { homes = set fresh.homes place state }) made.is_fresh;
      long = length-set fresh.homes place state ∙ made.long;
      done = λ k below there. elim (cases_eq k line) [
        | inl here ↦
            ap (λ (n : ℕ). home_of (with_home fresh line state) n) here
            ∙ (get_or-set_same fresh.homes place state opening_home room ∙ (is ∙ ap (home_of node) (sym here)))
        | inr other ↦
            get_or-set_other fresh.homes place (k / fresh.cache.nodes) state opening_home
            (λ same. other_place node.cache.nodes k line (there ∙ sym mine) other (places fresh.cache.nodes node.cache.nodes k line nodes same))
            ∙ made.done k (omega arith) there
      ];
      left = λ k above there.
          get_or-set_other fresh.homes place (k / fresh.cache.nodes) state opening_home
          (λ same. other_place node.cache.nodes k line (there ∙ sym mine) (λ e. absurd (omega arith))
          (places fresh.cache.nodes node.cache.nodes k line nodes same))
          ∙ made.left k (omega arith) there;
    }

pub made_skip : (node fresh : NodeOf) (limit line : ℕ) → IsMade node limit fresh line → (line % node.cache.nodes ≡ node.cache.me → ⊥)
    → IsMade node limit fresh (line + 1)
made_skip node fresh limit line made not_mine = record {
  is_fresh = made.is_fresh;
  long = made.long;
  done = λ k below there. elim (cases_eq k line) [
    | inl here ↦ absurd (not_mine (ap (λ (n : ℕ). n % node.cache.nodes) (sym here) ∙ there))
    | inr other ↦ made.done k (omega arith) there
  ];
  left = λ k above there. made.left k (omega arith) there;
}

pub homes_made : (node fresh : NodeOf) (limit line lines : ℕ) → IsMade node limit fresh line → lines ≤ line → lines ≡ lines_of node → HasHomes node fresh
homes_made node fresh limit line lines made all is k lt mine = made.done k (omega arith) mine
