-- The table at the beginning, and its ends.
use Rattle.std.proofs.Common.{◌≡◌, ◌≢◌, ℕ, zero, suc, ◌+◌, ◌-◌, ◌*◌, ◌/◌, ◌%◌, ◌<◌, ◌≤◌, ◌⊎◌, inl, inr, List, [], ◌∷◌, ◌++◌, length, get_or, map, take}
use Rattle.std.proofs.{Common.{drop, replicate, Some, None, refl, sym, ap, subst, ◌∙◌, arith}, lemmas.Bool.{cases_lt}}
use Rattle.std.proofs.lemmas.List.{get_or-replicate, get_or_past, length-replicate}
use Rattle.std.proofs.lemmas.List.FromFn.{map-range_with_len_more}
use Rattle.std.specs.{Prelude.{slice_get}, List.{AllByRecursion, range_with_len}}
use mathlib.Core.Option.{some, some-injective, some-ne-none}
use lib.ListN.{get_elem?}
use Rattle.atomic_table.specs.{Table.{Splits, opening as opening_state, Me}, Seated.{TableId}}
use Rattle.sci_cache.specs.{Cache.{Letter}, Line.{untouched}}
use Rattle.sci_words.specs.declared.{extent.Extent.{Extent}, limits.TheConstants.{MAX_OPERATIONS}}
use Rattle.sci_core.specs.{Size.{Size, size_of, IsMachineSize}, Node.{NodeOf, opening_node}}
use Rattle.sci_core.specs.{Core.{lane_at, opening}, Reached.{IsReached}}
use Rattle.sci_core.proofs.Schedules.{node_opened}
use Rattle.sci_lanes.specs.{declared.view.{Part.{Part}, View.{View}}, Cells.{lane_count, word_count}}
use Rattle.sci_lanes.specs.Shown.{Fits, Whole, me_of, no_outbound, no_inbound, single, opening_part, first_view, IsKnown, HasRead, IsKept}
use Rattle.sci_lanes.specs.Telling.{IsShown, part_of, size_in}
use Rattle.sci_lanes.specs.Ends.{FitsInside, rest_view, no_view, first_off, first_only, EndOf, IsSeated, opening_ends}
use Rattle.sci_lanes.proofs.{Keeping.{read_none, seen_all}, Sharing.{splits}}

reached_opening : (size : Size) → IsMachineSize size → IsReached (opening size)
reached_opening size ok = record { size = ok; moves = []; leads = refl }

pub replicated : {A : Type 0} (count k : ℕ) (a : A) → get_or (replicate count a) k a ≡ a
replicated count k a = grind (arith, cases_lt, get_or-replicate, get_or_past, replicate, length-replicate)

pub lane_opened : (size : Size) (lane : ℕ) → lane_at (opening size) lane ≡ []
lane_opened size lane = replicated (2 * size.nodes * size.nodes) lane []

fits_opened : (words : List ℕ) (lane : ℕ) → ((k : ℕ) → get_or words k 0 ≡ 0) → Fits words lane [] no_outbound no_inbound
fits_opened words lane zeros = grind arith

-- a part of the opening state
known_opened : (size : Size) (n : ℕ) → n < size.nodes
    → IsKnown (record { core = opening size; schedule = []; outbound = λ l. no_outbound; inbound = λ l. no_inbound; owner = λ m. 0 }) 0 (opening_part size n)
known_opened size n lt = grind (arith, node_opened, seen_all, length-replicate, replicated)

all_opened : (P : Part → Type 0) (size : Size) (a count : ℕ) → ((n : ℕ) → a ≤ n → n < a + count → P (opening_part size n))
    → AllByRecursion P (map (opening_part size) (range_with_len a count))
all_opened P size a zero each = tt
all_opened P size a (suc count) each = (each a (omega arith) (omega arith), all_opened P size (a + 1) count (λ n le lt. each n (omega arith) (omega arith)))

there_opened : (size : Size) (a count n : ℕ) → n < count → slice_get (map (opening_part size) (range_with_len a count)) n ≡ Some (opening_part size (a + n))
there_opened size a zero n lt = absurd (omega arith)
there_opened size a (suc count) zero lt = let e : a ≡ a + 0 = omega arith in ap (λ (k : ℕ). Some (opening_part size k)) e
there_opened size a (suc count) (suc n) lt = let e : a + 1 + n ≡ a + suc n = omega arith in
    there_opened size (a + 1) count n (omega arith) ∙ ap (λ (k : ℕ). Some (opening_part size k)) e

pub opened : (size : Size) (words : List ℕ) → IsMachineSize size → length words ≡ word_count size.nodes → ((k : ℕ) → get_or words k 0 ≡ 0)
    → IsKept size (opening_state words [] (first_view size))
opened size words ok long zeros = record {
  whole = x;
  reached = reached_opening size ok;
  sized = refl;
  leads = refl;
  enabled = tt;
  shown = record {
    long = long;
    lanes = λ lane lt. record { packets = []; letters = sym (lane_opened size lane); fits = fits_opened words lane zeros };
    known = λ seat view e. known seat view e;
    covered = λ n lt. record {
      view = first_view size;
      place = n;
      part = opening_part size (0 + n);
      seated = refl;
      there = there_opened size 0 size.nodes n lt;
      of_node = omega arith;
    };
    read = λ seat view e. read seat view e;
  };
}
  where
    x : Whole
    x = record { core = opening size; schedule = []; outbound = λ l. no_outbound; inbound = λ l. no_inbound; owner = λ m. 0 }

    known : (seat : ℕ) (view : View) → get_elem? (first_view size ∷ []) seat ≡ some view → AllByRecursion (IsKnown x seat) view.parts
    known zero view e = subst (λ (v : View). AllByRecursion (IsKnown x 0) v.parts) (some-injective (first_view size) view e)
        (all_opened (IsKnown x 0) size 0 size.nodes (λ n le lt. known_opened size n (omega arith)))
    known (suc seat) view e = absurd (some-ne-none view (sym e))

    read : (seat : ℕ) (view : View) → get_elem? (first_view size ∷ []) seat ≡ some view → HasRead x seat words view.words
    read zero view e = subst (λ (v : View). HasRead x 0 words v.words) (some-injective (first_view size) view e) (read_none x 0 words)
    read (suc seat) view e = absurd (some-ne-none view (sym e))

-- ---- splitting

rest_is : (size : Size) (n : ℕ) → n < size.nodes
    → rest_view size n ≡ record { parts = opening_part size n ∷ map (opening_part size) (range_with_len (n + 1) (size.nodes - (n + 1))); words = [] }
rest_is size n lt = let e : size.nodes - n ≡ suc (size.nodes - (n + 1)) = omega arith in
    ap (λ (count : ℕ). record { parts = map (opening_part size) (range_with_len n count); words = [] }) e

pub split_asks : (size : Size) (id n : ℕ) (view : View) → n < size.nodes → view ≡ rest_view size n
    → Splits (IsKept size) id view (first_off view) (first_only view)
split_asks size id n view lt is =
    subst (λ (v : View). Splits (IsKept size) id v (first_off v) (first_only v)) (sym (is ∙ rest_is size n lt))
    (splits size id (opening_part size n) (map (opening_part size) (range_with_len (n + 1) (size.nodes - (n + 1))))
    (all_opened (λ q. me_of q ≢ n) size (n + 1) (size.nodes - (n + 1)) (λ m le less e. omega arith)))

pub split_left : (size : Size) (n : ℕ) (view : View) → n < size.nodes → view ≡ rest_view size n → first_off view ≡ rest_view size (n + 1)
split_left size n view lt is = ap first_off (is ∙ rest_is size n lt)

pub split_right : (size : Size) (n : ℕ) (view : View) → n < size.nodes → view ≡ rest_view size n → first_only view ≡ single (opening_part size n)
split_right size n view lt is = ap first_only (is ∙ rest_is size n lt)

-- ---- ends

pub size_opened : (size : Size) (m : ℕ) → size_in (opening_part size m) ≡ size
size_opened size m = λ i. record { nodes = size.nodes; lines = length-replicate size.lines untouched i; slots = size.slots; limit = size.limit }

pub shown_opened : (size : Size) (n : ℕ) → IsMachineSize size → n < size.nodes → IsShown (opening_part size n)
shown_opened size n ok lt = record {
  core = opening size;
  reached = reached_opening size ok;
  leads = ap (λ (z : Size). opening z) (size_opened size n);
  enabled = tt;
  some_node = lt;
  here = node_opened size n lt;
  outbound_long = length-replicate (lane_count size.nodes) no_outbound;
  inbound_long = length-replicate (lane_count size.nodes) no_inbound;
  found = λ lane less is some_found. absurd (let e = ap (λ i. length i.found) (replicated (lane_count size.nodes) lane no_inbound) in omega arith);
  vacant = λ lane less is vacant. absurd (not_vacant (ap (λ o. o.vacant) (sym (replicated (lane_count size.nodes) lane no_outbound)) ∙ vacant));
  room = λ lane less. let l = ap (λ (ls : List Letter). length ls) (lane_opened size lane) in omega arith;
  own = λ lane less sends receives.
      let o = ap (λ u. u.sent) (replicated (lane_count size.nodes) lane no_outbound) in
      let i = ap (λ u. u.taken) (replicated (lane_count size.nodes) lane no_inbound) in
      let l = ap (λ (ls : List Letter). length ls) (lane_opened size lane) in
      omega arith;
}
  where
    not_vacant : Rattle.std.proofs.Common.false ≡ Rattle.std.proofs.Common.true → ⊥
    not_vacant e = cc

pub inside_opened : (size : Size) (n : ℕ) (node : NodeOf) → IsMachineSize size → n < size.nodes → node ≡ opening_node n size
    → FitsInside (opening_part size n) node node.cache.me size.nodes (replicate (lane_count size.nodes) 0) (replicate (2 * size.nodes) 0)
inside_opened size n node ok lt is =
    subst (λ (m : NodeOf). FitsInside (opening_part size n) m m.cache.me size.nodes (replicate (lane_count size.nodes) 0) (replicate (2 * size.nodes) 0))
    (sym is)
    (record {
      shown = shown_opened size n ok lt;
      node_is = refl;
      me_is = refl;
      nodes_is = refl;
      some_node = lt;
      outbound_long = length-replicate (lane_count size.nodes) no_outbound;
      inbound_long = length-replicate (lane_count size.nodes) no_inbound;
      turns_long = length-replicate (lane_count size.nodes) 0;
      inbox_turns_long = length-replicate (2 * size.nodes) 0;
      turns_are = λ lane less. replicated (lane_count size.nodes) lane 0 ∙ ap (λ u. u.sent % 4) (sym (replicated (lane_count size.nodes) lane no_outbound));
      taken_are = λ lane less here. replicated (2 * size.nodes) (lane / size.nodes) 0
          ∙ ap (λ u. u.taken % 4) (sym (replicated (lane_count size.nodes) lane no_inbound));
    })

-- ---- the size

pub machine_size : (extent : Extent) (limit : ℕ) → 1 ≤ limit → limit ≤ MAX_OPERATIONS → IsMachineSize (size_of extent limit)
machine_size extent limit some_operation few = grind arith

pub seated_opened : (extent : Extent) (limit n : ℕ) (key : Extent × ℕ) (table seat : TableId) (knows : Me (Unit {0}) View)
    → IsMachineSize (size_of extent limit) → n < extent.nodes → key ≡ (extent, limit) → seat ≡ table → seat.words ≡ word_count extent.nodes
    → knows ≡ (single (opening_part (size_of extent limit) n), []) → IsSeated key table seat knows
seated_opened extent limit n key table seat knows ok lt key_is same long is =
    let part_is : part_of knows.0 ≡ opening_part (size_of extent limit) n = ap (λ (k : Me (Unit {0}) View). part_of k.0) is in
    record {
      same = same;
      long = ap (λ (t : TableId). t.words) (sym same) ∙ (long ∙ ap (λ (k : Extent × ℕ). word_count k.0.nodes) (sym key_is));
      seated = is ∙ ap (λ (p : Part). (single p, [])) (sym part_is);
      shown = subst IsShown (sym part_is) (shown_opened (size_of extent limit) n ok lt);
      sized = ap size_in part_is ∙ (size_opened (size_of extent limit) n ∙ ap (λ (k : Extent × ℕ). size_of k.0 k.1) (sym key_is));
    }

-- ---- what a split leaves

pub knows_after : (size : Size) (n : ℕ) (old new : Me (Unit {0}) View) → n < size.nodes → old ≡ (rest_view size n, []) → new ≡ (first_off old.0, old.1)
    → new ≡ (rest_view size (n + 1), [])
knows_after size n old new lt is told = grind (arith, split_left)

pub knows_new : (size : Size) (n : ℕ) (old new : Me (Unit {0}) View) → n < size.nodes → old ≡ (rest_view size n, []) → new ≡ (first_only old.0, [])
    → new ≡ (single (opening_part size n), [])
knows_new size n old new lt is told = told ∙ ap (λ (v : View). (v, [])) (split_right size n old.0 lt (ap (λ (k : Me (Unit {0}) View). k.0) is))

pub ends_more : (old new : TableId) (size : Size) (n : ℕ) (ends later : List EndOf) (end : EndOf) → new ≡ old → ends ≡ opening_ends old size n
    → end ≡ record { table = old; part = opening_part size n } → later ≡ ends ++ end ∷ [] → later ≡ opening_ends new size (n + 1)
ends_more old new size n ends later end same is end_is more =
    more ∙ ((λ i. is i ++ end_is i ∷ [])
    ∙ (sym (map-range_with_len_more (λ m. record { table = old; part = opening_part size m }) 0 n n (omega arith))
    ∙ ap (λ (t : TableId). opening_ends t size (n + 1)) (sym same)))

pub none_left : (size : Size) (n : ℕ) (knows : Me (Unit {0}) View) → size.nodes ≤ n → knows ≡ (rest_view size n, []) → knows ≡ (no_view, [])
none_left size n knows le is = let e : size.nodes - n ≡ 0 = omega arith in
    is ∙ ap (λ (count : ℕ). (record { parts = map (opening_part size) (range_with_len n count); words = [] }, [])) e
