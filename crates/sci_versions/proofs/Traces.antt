-- What is said of a trace is said of its logs with versions.
use Rattle.std.proofs.Common.{◌≡◌, ℕ, zero, suc, ◌<◌, List, [], ◌∷◌, ◌++◌, length, map, get_or, refl, sym, ap, subst, ◌∙◌, arith, inl, inr}
use Rattle.std.proofs.lemmas.{Bool.{cases_Bool, cases_lt, eq-eqb}, List.Elements.{recursion_from_All}}
use Rattle.std.specs.List.{filter, AllPairs}
use Rattle.sci_words.specs.declared.{limits.TheConstants.{WORDS_PER_LINE}, stamped.Stamped.{Stamped}}
use Rattle.sci_history.proofs.{AuditFinds.{no_entry}, Consequences.{among_all, among_filter, among_whole}, Order.{filter_yes, filter_no}}
use Rattle.sci_history.proofs.Placings.{among_back, among_begins}
use Rattle.sci_history.specs.{Lawful.{IsLawfulLine}, Memory.{stamped_at}, Placed.{AreOwn, is_making, is_on_line, log_of}, Seen.{DidOn, IsAmong}}
use Rattle.sci_history.specs.declared.entry.Entry.{Entry}
use Rattle.sci_versions.proofs.Cycles.{no_cycle}
use Rattle.sci_versions.specs.Stretches.{left_by, IsWriter, IsWrittenOnce, FollowsIn, IsChain, IsCycle}
use Rattle.sci_versions.specs.Versions.{unversioned, without_versions, HasVersions, KnownWords}

-- ---- lists that are the same but for versions

pub at_node : (logs : List (List Entry)) (node : ℕ) → log_of (without_versions logs) node ≡ map unversioned (log_of logs node)
at_node [] node = refl
at_node (log ∷ logs) zero = refl
at_node (log ∷ logs) (suc node) = at_node logs node

filtered : (line : ℕ) (es : List Entry) → filter (is_on_line line) (map unversioned es) ≡ map unversioned (filter (is_on_line line) es)
filtered line [] = refl
filtered line (e ∷ es) = elim (cases_Bool (is_on_line line e)) [
  | inl on ↦
      filter_yes (is_on_line line) (unversioned e) (map unversioned es) on
      ∙ (ap (λ (xs : List Entry). unversioned e ∷ xs) (filtered line es) ∙ sym (ap (map unversioned) (filter_yes (is_on_line line) e es on)))
  | inr off ↦
      filter_no (is_on_line line) (unversioned e) (map unversioned es) off
      ∙ (filtered line es ∙ sym (ap (map unversioned) (filter_no (is_on_line line) e es off)))
]

tails : (x z : Entry) (xs ys : List Entry) → map unversioned (x ∷ xs) ≡ map unversioned (z ∷ ys) → map unversioned xs ≡ map unversioned ys
tails x z xs ys same = cc

heads : (x z : Entry) (xs ys : List Entry) → map unversioned (x ∷ xs) ≡ map unversioned (z ∷ ys) → unversioned x ≡ unversioned z
heads x z xs ys same = cc

-- an entry that is the same but for its version
pub record IsTwin (xs : List Entry) (y : Entry) : Type 0 where
  pub entry : Entry
  pub among : IsAmong entry xs
  pub same : unversioned entry ≡ unversioned y

pub among_same : (xs ys : List Entry) (y : Entry) → map unversioned xs ≡ map unversioned ys → IsAmong y ys → IsTwin xs y
among_same xs [] y same h = elim h [ ]
among_same [] (z ∷ ys) y same h = absurd cc
among_same (x ∷ xs) (z ∷ ys) y same (inl is) = record { entry = x; among = inl refl; same = heads x z xs ys same ∙ ap unversioned (sym is) }
among_same (x ∷ xs) (z ∷ ys) y same (inr h) = let rest = among_same xs ys y (tails x z xs ys same) h in
    record { entry = rest.entry; among = inr rest.among; same = rest.same }

-- a list that is split at the twin of an entry
record IsSplit (xs before : List Entry) (x : Entry) : Type 0 where
  first : List Entry
  entry : Entry
  rest : List Entry
  whole : xs ≡ first ++ entry ∷ rest
  firsts : map unversioned first ≡ map unversioned before
  same : unversioned entry ≡ unversioned x

split_same : (xs before after : List Entry) (x : Entry) → map unversioned xs ≡ map unversioned (before ++ x ∷ after) → IsSplit xs before x
split_same [] [] after x same = absurd cc
split_same [] (b ∷ before) after x same = absurd cc
split_same (y ∷ xs) [] after x same = record { first = []; entry = y; rest = xs; whole = refl; firsts = refl; same = heads y x xs after same }
split_same (y ∷ xs) (b ∷ before) after x same =
    let more = split_same xs before after x (tails y b xs (before ++ x ∷ after) same) in
    let head : unversioned y ≡ unversioned b = heads y b xs (before ++ x ∷ after) same in
    record {
      first = y ∷ more.first;
      entry = more.entry;
      rest = more.rest;
      whole = ap (λ (es : List Entry). y ∷ es) more.whole;
      firsts = ap (λ (es : List Entry). unversioned y ∷ es) more.firsts ∙ ap (λ (e : Entry). e ∷ map unversioned before) head;
      same = more.same;
    }

-- ---- logs that are the same but for versions

abbrev pub AreSame : List (List Entry) → List (List Entry) → Type 0
AreSame a b = (node : ℕ) → map unversioned (log_of a node) ≡ map unversioned (log_of b node)

-- the twin of an entry that a node did on a line
pub record HasDone (logs : List (List Entry)) (line node : ℕ) (y : Entry) : Type 0 where
  pub entry : Entry
  pub did : DidOn logs line node entry
  pub same : unversioned entry ≡ unversioned y

pub did_same : (a b : List (List Entry)) (line node : ℕ) (y : Entry) → AreSame a b → DidOn b line node y → HasDone a line node y
did_same a b line node y same did =
    let twin = among_same (log_of a node) (log_of b node) y (same node) did.among in
    record {
      entry = twin.entry;
      did = record { known = did.known; among = twin.among; on = ap (λ (e : Entry). e.op.line) twin.same ∙ did.on };
      same = twin.same;
    }

-- the twin of a writer
record HasWriter (logs : List (List Entry)) (line word value node : ℕ) (y : Entry) : Type 0 where
  entry : Entry
  writer : IsWriter logs line word value node entry
  same : unversioned entry ≡ unversioned y

writer_same : (a b : List (List Entry)) (line word value node : ℕ) (y : Entry) → AreSame a b → IsWriter b line word value node y
    → HasWriter a line word value node y
writer_same a b line word value node y same writer =
    let x = did_same a b line node y same writer.did in
    record {
      entry = x.entry;
      writer = record {
        did = x.did;
        making = ap is_making x.same ∙ writer.making;
        there = ap (λ (e : Entry). e.op.word) x.same ∙ writer.there;
        leaves = ap left_by x.same ∙ writer.leaves;
        changes = λ e. writer.changes (sym (ap (λ (e : Entry). e.reply) x.same) ∙ e);
      };
      same = x.same;
    }

-- ---- an entry is known by its node and serial

-- where an entry stands in a list
record StandsAt (es : List Entry) (entry : Entry) : Type 0 where
  place : ℕ
  below : place < length es
  here : get_or es place no_entry ≡ entry

stands : (es : List Entry) (entry : Entry) → IsAmong entry es → StandsAt es entry
stands [] entry h = elim h [ ]
stands (e ∷ es) entry (inl same) = record { place = 0; below = omega arith; here = sym same }
stands (e ∷ es) entry (inr h) = let rest = stands es entry h in let below = rest.below in
    record { place = suc rest.place; below = omega arith; here = rest.here }

one_serial : (es : List Entry) (x y : Entry) → AllPairs (λ (x y : Entry). x.serial < y.serial) es → IsAmong x es → IsAmong y es → x.serial ≡ y.serial → x ≡ y
one_serial es x y rise in_x in_y serial =
    let a = stands es x in_x in
    let b = stands es y in_y in
    let at_x = ap (λ (e : Entry). e.serial) a.here in
    let at_y = ap (λ (e : Entry). e.serial) b.here in
    elim (cases_lt a.place b.place) [
      | inl lt ↦ let less = rise a.place b.place no_entry lt b.below in absurd (omega arith)
      | inr not_lt ↦ elim (cases_lt b.place a.place) [
        | inl lt ↦ let less = rise b.place a.place no_entry lt a.below in absurd (omega arith)
        | inr not_more ↦
            let same : a.place ≡ b.place = omega arith in
            sym a.here ∙ (ap (λ (k : ℕ). get_or es k no_entry) same ∙ b.here)
      ]
    ]

node_of : (logs : List (List Entry)) (line node : ℕ) (entry : Entry) → AreOwn logs → DidOn logs line node entry → entry.node ≡ node
node_of logs line node entry own did =
    among_all (λ e. e.node ≡ node) entry (log_of logs node) (recursion_from_All (λ e. e.node ≡ node) (log_of logs node) (own node)) did.among

pub one_entry : (logs : List (List Entry)) (line n m : ℕ) (last : Stamped) (x y : Entry) → AreOwn logs → IsLawfulLine logs line last
    → DidOn logs line n x → DidOn logs line m y → unversioned x ≡ unversioned y → x ≡ y
one_entry logs line n m last x y own lawful did_x did_y same =
    let nodes : m ≡ n = sym (node_of logs line m y own did_y) ∙ (sym (ap (λ (e : Entry). e.node) same) ∙ node_of logs line n x own did_x) in
    let there : DidOn logs line n y = subst (λ (k : ℕ). DidOn logs line k y) nodes did_y in
    one_serial (filter (is_on_line line) (log_of logs n)) x y (lawful.order n did_x.known).serials
    (among_filter (is_on_line line) x (log_of logs n) (eq-eqb _ line did_x.on) did_x.among)
    (among_filter (is_on_line line) y (log_of logs n) (eq-eqb _ line there.on) there.among) (ap (λ (e : Entry). e.serial) same)

once_same : (logs trace : List (List Entry)) (line word value : ℕ) (last : Stamped) → AreOwn logs → IsLawfulLine logs line last → AreSame trace logs
    → IsWrittenOnce trace line word value → IsWrittenOnce logs line word value
once_same logs trace line word value last own lawful same once = record {
  once = λ n m x y writes_x writes_y.
      let a = writer_same trace logs line word value n x same writes_x in
      let b = writer_same trace logs line word value m y same writes_y in
      one_entry logs line n m last x y own lawful writes_x.did writes_y.did
      (sym a.same ∙ (ap unversioned (once.once n m a.entry b.entry a.writer b.writer) ∙ b.same));
  never_zero = λ zero n x writes. let a = writer_same trace logs line word value n x same writes in once.never_zero zero n a.entry a.writer;
}

-- ---- cycles

-- the twins of two entries, of which the first follows the second
record HasFollower (logs : List (List Entry)) (line word : ℕ) (x y : Entry) : Type 0 where
  here : Entry
  there : Entry
  follows : FollowsIn logs line word here there
  leaves_here : left_by here ≡ left_by x
  leaves_there : left_by there ≡ left_by y

follows_same : (logs trace : List (List Entry)) (line word : ℕ) (last : Stamped) (x y : Entry) → AreOwn logs → IsLawfulLine logs line last
    → AreSame logs trace → FollowsIn trace line word x y → HasFollower logs line word x y
follows_same logs trace line word last x y own lawful same f =
    let node = f.node in
    let all : map unversioned (filter (is_on_line line) (log_of logs node)) ≡ map unversioned (f.before ++ x ∷ f.after) =
    sym (filtered line (log_of logs node))
    ∙ (ap (filter (is_on_line line)) (same node) ∙ (filtered line (log_of trace node) ∙ ap (map unversioned) f.logged)) in
    let cut = split_same (filter (is_on_line line) (log_of logs node)) f.before f.after x all in
    let twin = among_same cut.first f.before y cut.firsts f.earlier in
    let on = filter (is_on_line line) (log_of logs node) in
    let among_x : IsAmong cut.entry on = subst (IsAmong cut.entry) (sym cut.whole) (among_back cut.first cut.entry cut.rest) in
    let among_y : IsAmong twin.entry on =
    subst (IsAmong twin.entry) (sym cut.whole) (among_begins twin.entry cut.first (cut.entry ∷ cut.rest) twin.among) in
    let left_x = ap left_by cut.same in
    let left_y = ap left_by twin.same in
    record {
      here = cut.entry;
      there = twin.entry;
      follows = record {
        node = node;
        known = f.known;
        before = cut.first;
        after = cut.rest;
        logged = cut.whole;
        earlier = twin.among;
        did_here = record {
          known = f.known;
          among = among_whole (is_on_line line) cut.entry (log_of logs node) among_x;
          on = ap (λ (e : Entry). e.op.line) cut.same ∙ f.did_here.on;
        };
        did_there = record {
          known = f.known;
          among = among_whole (is_on_line line) twin.entry (log_of logs node) among_y;
          on = ap (λ (e : Entry). e.op.line) twin.same ∙ f.did_there.on;
        };
        here = ap (λ (e : Entry). e.op.word) cut.same ∙ f.here;
        there = ap (λ (e : Entry). e.op.word) twin.same ∙ f.there;
        differ = λ e. f.differ (sym left_x ∙ (e ∙ left_y));
        once = once_same logs trace line word (left_by cut.entry) last own lawful (λ k. sym (same k))
            (subst (IsWrittenOnce trace line word) (sym left_x) f.once);
      };
      leaves_here = left_x;
      leaves_there = left_y;
    }

-- the twin of a chain
record HasChain (logs : List (List Entry)) (line word : ℕ) (p : Entry × Entry) (end : ℕ) : Type 0 where
  first : Entry × Entry
  rest : List (Entry × Entry)
  way : IsChain logs line word (first ∷ rest) end
  leaves : left_by first.0 ≡ left_by p.0

chain_same : (logs trace : List (List Entry)) (line word end : ℕ) (last : Stamped) (p : Entry × Entry) (ps : List (Entry × Entry)) → AreOwn logs
    → IsLawfulLine logs line last → AreSame logs trace → IsChain trace line word (p ∷ ps) end → HasChain logs line word p end
chain_same logs trace line word end last p [] own lawful same way =
    let f = follows_same logs trace line word last p.0 p.1 own lawful same way.0 in
    record { first = (f.here, f.there); rest = []; way = (f.follows, f.leaves_there ∙ way.1); leaves = f.leaves_here }
chain_same logs trace line word end last p (q ∷ ps) own lawful same way =
    let f = follows_same logs trace line word last p.0 p.1 own lawful same way.0 in
    let more = chain_same logs trace line word end last q ps own lawful same way.2 in
    record {
      first = (f.here, f.there);
      rest = more.first ∷ more.rest;
      way = (f.follows, f.leaves_there ∙ (way.1 ∙ sym more.leaves), more.way);
      leaves = f.leaves_here;
    }

pub no_versions : (trace : List (List Entry)) (known : KnownWords) (line word : ℕ) (steps : List (Entry × Entry)) → word < WORDS_PER_LINE
    → IsCycle trace line word steps → HasVersions trace known → ⊥
no_versions trace known line word [] small cycle has = cycle
no_versions trace known line word (p ∷ ps) small cycle has =
    let logs = has.0 in
    let last = has.1 in
    let are = has.2 in
    let same : AreSame logs trace = λ node. sym (at_node logs node) ∙ (ap (λ (all : List (List Entry)). log_of all node) are.same ∙ at_node trace node) in
    let w = chain_same logs trace line word (left_by p.0) (stamped_at last line) p ps are.own (are.lawful line) same cycle in
    no_cycle logs last line word (w.first ∷ w.rest) are.own are.sixteen are.lawful small
    (subst (IsChain logs line word (w.first ∷ w.rest)) (sym w.leaves) w.way)
