-- A cycle of operations rules out every order of them, whatever their versions are.
use Rattle.std.proofs.Common.{◌≡◌, ℕ, zero, suc, ◌+◌, ◌<◌, ◌≤◌, Bool, true, false, cond, List, [], ◌∷◌, ◌++◌, length, take, None, Some, get_or}
use Rattle.std.proofs.Common.{refl, sym, ap, subst, ◌∙◌, arith, inl, inr, append_assoc}
use Rattle.std.proofs.lemmas.Bool.{cases_Bool, cases_eq, cases_lt, eq-eqb, ne_eqb}
use Rattle.std.proofs.lemmas.{List.{append-nil, length-map}, List.Sums.{sum_by-cons}}
use Rattle.std.proofs.lemmas.Option.{get_or_from_slice_get, slice_get-get_or, slice_get-map, slice_get_cases, slice_get_within}
use Rattle.std.specs.{Prelude.{slice_get, count_by, option_map}, List.{All, AllPairs, filter}}
use Rattle.sci_words.specs.{declared.limits.TheConstants.{MAX_NODES}, Stamped.{zero_stamped}}
use Rattle.sci_history.specs.{declared.entry.Entry.{Entry}, Memory.{stamped_at}, Placed.{is_making as makes_entry, is_of_node, is_on_line, log_of}}
use Rattle.sci_history.specs.Sequential.{IsSequentialOrder}
use Rattle.sci_history.proofs.{AuditFinds.{no_entry}, Cycles.{before_by_key, got, later, place_in, stands}, Histories.{places-rise}}
use Rattle.sci_history.proofs.{Oracles.{log_of-logs_of}, Order.{filter_no, filter_yes}, Placement.{place}}
use Rattle.sci_judge.specs.declared.{access.{Access.{Access}, Kind.{Kind, TheVariants.{Load, Store, Atomic}}}, cycle.{Link.{Link}, Reason.{Reason}}}
use Rattle.sci_judge.specs.declared.{judging.SiteVersions.{SiteVersions}, logging.Log.{Log}, trace.Trace.{Trace}, witness.Step.{Step}}
use Rattle.sci_judge.specs.declared.cycle.Reason.TheVariants as reason
use Rattle.sci_judge.specs.Access.{AreKnown, is_making, is_writing, left_by}
use Rattle.sci_judge.specs.Cycle.{AreAtOneAddress, AreLinked, HasNoOrderAtAll, IsCycle, IsFirst, StandsFirst}
use Rattle.sci_judge.specs.{Judgement.{IsExplainedAt, addresses_of, at_address, is_at, last_at}, Logged.{AreEntriesOf, IsEntryOf, IsLogOf}}
use Rattle.sci_judge.specs.{Stamped.{IsExplainedBy}, Witness.{AreInTurn, ComesBefore, IsAt, IsPath}}
use Rattle.sci_judge.proofs.Explained.{version_in}
use Rattle.sci_judge.proofs.Forced.{are_of, behind_writer, below, explanation, reads_same, writing_makes}
use Rattle.sci_judge.proofs.{ForcedChecks.{one_access}, Runs.{site_known}}

-- ---- lists

-- an element that passes a test stands among those that do behind all that come before it
among_passing : {X : Type 0} (p : X → Bool) (xs : List X) (i : ℕ) (x : X) → slice_get xs i ≡ Some x → p x ≡ true
    → slice_get (filter p xs) (count_by p (take i xs)) ≡ Some x
among_passing {X = X} p [] i x at passes = absurd cc
among_passing {X = X} p (y ∷ xs) zero x at passes = let same : y ≡ x = cc in let here : p y ≡ true = ap p same ∙ passes in rw here at
among_passing {X = X} p (y ∷ xs) (suc i) x at passes =
    let rest = among_passing p xs i x at passes in
    elim (cases_Bool (p y)) [
      | inl yes_ ↦
          let more : count_by p (take (suc i) (y ∷ xs)) ≡ 1 + count_by p (take i xs) = sum_by-cons (λ z. cond (p z) 1 0) y (take i xs) ∙ rw yes_ refl in
          let next : count_by p (take (suc i) (y ∷ xs)) ≡ suc (count_by p (take i xs)) = omega arith in
          ap (slice_get (filter p (y ∷ xs))) next
          ∙ (ap (λ (zs : List X). slice_get zs (suc (count_by p (take i xs)))) (filter_yes p y xs yes_) ∙ rest)
      | inr no_ ↦
          let more : count_by p (take (suc i) (y ∷ xs)) ≡ 0 + count_by p (take i xs) = sum_by-cons (λ z. cond (p z) 1 0) y (take i xs) ∙ rw no_ refl in
          let same : count_by p (take (suc i) (y ∷ xs)) ≡ count_by p (take i xs) = omega arith in
          ap (slice_get (filter p (y ∷ xs))) same
          ∙ (ap (λ (zs : List X). slice_get zs (count_by p (take i xs))) (filter_no p y xs no_) ∙ rest)
    ]

-- and fewer come before an earlier one
fewer_before : {X : Type 0} (p : X → Bool) (xs : List X) (i j : ℕ) (x : X) → slice_get xs i ≡ Some x → p x ≡ true → i < j
    → count_by p (take i xs) < count_by p (take j xs)
fewer_before p [] i j x at passes lt = absurd cc
fewer_before p (y ∷ xs) i zero x at passes lt = absurd (omega arith)
fewer_before p (y ∷ xs) zero (suc j) x at passes lt =
    let same : y ≡ x = cc in
    let here : p y ≡ true = ap p same ∙ passes in
    let more : count_by p (take (suc j) (y ∷ xs)) ≡ 1 + count_by p (take j xs) = sum_by-cons (λ z. cond (p z) 1 0) y (take j xs) ∙ rw here refl in
    omega arith
fewer_before p (y ∷ xs) (suc i) (suc j) x at passes lt =
    let rest = fewer_before p xs i j x at passes (omega arith) in
    let low = sum_by-cons (λ z. cond (p z) 1 0) y (take i xs) in
    let high = sum_by-cons (λ z. cond (p z) 1 0) y (take j xs) in
    omega arith

-- ---- entries of a log

record HasEntry (addresses : List ℕ) (done : List Entry) (es : List Entry) (i : ℕ) (a : Access) : Type 0 where
  entry : Entry
  at : slice_get es i ≡ Some entry
  is : IsEntryOf addresses (done ++ take i es) a entry

entry_for : (addresses : List ℕ) (done : List Entry) (xs : List Access) (es : List Entry) (i : ℕ) (a : Access) → AreEntriesOf addresses done xs es
    → slice_get xs i ≡ Some a → HasEntry addresses done es i a
entry_for addresses done [] es i a are at = absurd cc
entry_for addresses done (x ∷ xs) [] i a are at = elim are [ ]
entry_for addresses done (x ∷ xs) (e ∷ es) zero a are at =
    let same : x ≡ a = cc in
    record {
      entry = e;
      at = refl;
      is = subst (λ (d : List Entry). IsEntryOf addresses d a e) (sym (append-nil done)) (subst (λ (y : Access). IsEntryOf addresses done y e) same are.0);
    }
entry_for addresses done (x ∷ xs) (e ∷ es) (suc i) a are at =
    let rest = entry_for addresses (done ++ e ∷ []) xs es i a are.1 at in
    record {
      entry = rest.entry;
      at = rest.at;
      is = subst (λ (d : List Entry). IsEntryOf addresses d a rest.entry) (append_assoc done (e ∷ []) (take i es)) rest.is;
    }

-- of addresses that rise each stands at one place
one_line : (addresses : List ℕ) (i j address : ℕ) → AllPairs (λ x y. x < y) addresses → slice_get addresses i ≡ Some address
    → slice_get addresses j ≡ Some address → i ≡ j
one_line addresses i j address rising at_i at_j =
    let low = get_or_from_slice_get addresses i address 0 at_i in
    let high = get_or_from_slice_get addresses j address 0 at_j in
    let in_i = slice_get_within addresses i address at_i in
    let in_j = slice_get_within addresses j address at_j in
    elim (cases_lt i j) [
      | inl lt ↦ let less = rising i j 0 lt in_j in absurd (omega arith)
      | inr ge ↦ elim (cases_lt j i) [
        | inl lt ↦ let less = rising j i 0 lt in_i in absurd (omega arith)
        | inr le ↦ omega arith
      ]
    ]

-- as many entries on a line as operations at its address
count_line : (addresses : List ℕ) (done : List Entry) (xs : List Access) (es : List Entry) (i line address : ℕ) → AllPairs (λ x y. x < y) addresses
    → slice_get addresses line ≡ Some address → AreEntriesOf addresses done xs es
    → count_by (is_on_line line) (take i es) ≡ count_by (is_at address) (take i xs)
count_line addresses done [] [] zero line address rising at are = refl
count_line addresses done [] [] (suc i) line address rising at are = refl
count_line addresses done [] (e ∷ es) i line address rising at are = elim are [ ]
count_line addresses done (x ∷ xs) [] i line address rising at are = elim are [ ]
count_line addresses done (x ∷ xs) (e ∷ es) zero line address rising at are = refl
count_line addresses done (x ∷ xs) (e ∷ es) (suc i) line address rising at are =
    let rest = count_line addresses (done ++ e ∷ []) xs es i line address rising at are.1 in
    let low = sum_by-cons (λ z. cond (is_on_line line z) 1 0) e (take i es) in
    let high = sum_by-cons (λ z. cond (is_at address z) 1 0) x (take i xs) in
    let here : is_on_line line e ≡ is_at address x = elim (cases_eq x.address address) [
      | inl same ↦
          eq-eqb e.op.line line (one_line addresses e.op.line line address rising (are.0.line ∙ ap Some same) at)
          ∙ sym (eq-eqb x.address address same)
      | inr differs ↦
          ne_eqb e.op.line line (λ on. differs (let both : Some x.address ≡ Some address = sym are.0.line ∙ (ap (slice_get addresses) on ∙ at) in cc))
          ∙ sym (ne_eqb x.address address differs)
    ] in
    low ∙ (ap (λ (b : Bool). cond b 1 0 + count_by (is_on_line line) (take i es)) here ∙ (ap (λ (k : ℕ). cond (is_at address x) 1 0 + k) rest ∙ sym high))

-- ---- places of entries

place_rises : (y x : Entry) → y.version < x.version → place y < place x
place_rises y x less = grind (arith, cases_Bool)

place_maker : (y x : Entry) → makes_entry y ≡ true → makes_entry x ≡ false → y.version ≤ x.version → place y < place x
place_maker y x making reading le = rw (making, reading) (omega arith)

making_of : (kind : Kind) (addresses : List ℕ) (done : List Entry) (a : Access) (e : Entry) → a.kind ≡ kind → IsEntryOf addresses done a e
    → makes_entry e ≡ is_making kind
making_of (Load read) addresses done a e kind is = rw (is.act, kind) refl
making_of (Store wrote) addresses done a e kind is = rw (is.act, kind) refl
making_of (Atomic read wrote) addresses done a e kind is = rw (is.act, kind) refl

-- ---- operations in an order

module _ (timed : Bool) (trace : Trace) (sites : List SiteVersions) (log : Log) (order : List Entry) (known : AreKnown trace.accesses.items)
    (explained : All (IsExplainedAt timed trace) sites) (is : IsLogOf trace sites log) (sequential : IsSequentialOrder log.logs log.last.value order) where
  abbrev accesses : List Access
  accesses = trace.accesses.items

  -- where an operation stands in the order
  abbrev stands_in : (i : ℕ) (a : Access) → ℕ
  stands_in i a = place_in (is_of_node a.processor) order (count_by (is_of_node a.processor) (take i is.entries))

  record IsThere (i : ℕ) (a : Access) : Type 0 where
    has : HasEntry (addresses_of sites) [] is.entries i a
    within : count_by (is_of_node a.processor) (take i is.entries) < length (filter (is_of_node a.processor) order)
    below : stands_in i a < length order
    same : get_or order (stands_in i a) no_entry ≡ has.entry

  there : (i : ℕ) (a : Access) → IsAt accesses i a → IsThere i a
  there i a at =
      let has = entry_for (addresses_of sites) [] accesses is.entries i a is.same at in
      let p = a.processor in
      let small : p < MAX_NODES =
      subst (λ (x : Access). x.processor < MAX_NODES) (get_or_from_slice_get accesses i a a at) (known i a (slice_get_within accesses i a at)) in
      let own : filter (is_of_node p) order ≡ filter (is_of_node p) is.entries =
      sequential.logged p ∙ (ap (λ (ls : List (List Entry)). log_of ls p) is.logged ∙ log_of-logs_of is.entries p small) in
      let among = among_passing (is_of_node p) is.entries i has.entry has.at (eq-eqb has.entry.node p has.is.node) in
      let here = got (filter (is_of_node p) is.entries) (count_by (is_of_node p) (take i is.entries)) has.entry among in
      let within = subst (λ (xs : List Entry). count_by (is_of_node p) (take i is.entries) < length xs) (sym own) here.0 in
      let at_order = stands (is_of_node p) order (count_by (is_of_node p) (take i is.entries)) within in
      record {
        has = has;
        within = within;
        below = at_order.below;
        same = at_order.same
            ∙ (ap (λ (xs : List Entry). get_or xs (count_by (is_of_node p) (take i is.entries)) no_entry) own ∙ here.1);
      }

  -- two operations of one processor stand in their order
  by_program : (i j : ℕ) (a b : Access) → IsAt accesses i a → IsAt accesses j b → a.processor ≡ b.processor → i < j → stands_in i a < stands_in j b
  by_program i j a b at_a at_b same lt =
      let p = a.processor in
      let here = there i a at_a in
      let next = there j b at_b in
      let fewer = fewer_before (is_of_node p) is.entries i j here.has.entry here.has.at (eq-eqb here.has.entry.node p here.has.is.node) lt in
      let within = subst (λ (q : ℕ). count_by (is_of_node q) (take j is.entries) < length (filter (is_of_node q) order)) (sym same) next.within in
      subst (λ (q : ℕ). stands_in i a < place_in (is_of_node q) order (count_by (is_of_node q) (take j is.entries))) same
      (later (is_of_node p) order (count_by (is_of_node p) (take i is.entries)) (count_by (is_of_node p) (take j is.entries)) fewer within)

  -- and two at one address by the places of their entries on its line
  by_place : (i j : ℕ) (a b : Access) (at_a : IsAt accesses i a) (at_b : IsAt accesses j b) → a.address ≡ b.address
      → place (there i a at_a).has.entry < place (there j b at_b).has.entry → stands_in i a < stands_in j b
  by_place i j a b at_a at_b same less =
      let here = there i a at_a in
      let next = there j b at_b in
      let y = here.has.entry in
      let x = next.has.entry in
      let line = y.op.line in
      let on : x.op.line ≡ line =
      one_line (addresses_of sites) x.op.line line b.address is.rising next.has.is.line (here.has.is.line ∙ ap Some same) in
      let rising = places-rise (filter (is_on_line line) order) zero_stamped (stamped_at log.last.value line) (sequential.histories line) in
      before_by_key place (is_on_line line) order (stands_in i a) (stands_in j b) rising here.below next.below
      (eq-eqb _ line (ap (λ (e : Entry). e.op.line) here.same)) (eq-eqb _ line (ap (λ (e : Entry). e.op.line) next.same ∙ on))
      (subst (λ (k : ℕ). k < place (get_or order (stands_in j b) no_entry)) (sym (ap place here.same))
      (subst (λ (k : ℕ). place y < k) (sym (ap place next.same)) less))

  -- ---- versions at an address

  record AreVersions (address : ℕ) : Type 0 where
    versions : List ℕ
    explains : IsExplainedBy timed (at_address address accesses) (last_at address trace) versions
    each : (i : ℕ) (a : Access) (at : IsAt accesses i a) → a.address ≡ address
        → slice_get versions (count_by (is_at address) (take i accesses)) ≡ Some (there i a at).has.entry.version

  versions_at : (i : ℕ) (a : Access) → IsAt accesses i a → AreVersions a.address
  versions_at i a at =
      let here = there i a at in
      let line = here.has.entry.op.line in
      let address = a.address in
      let inside = slice_get_within (addresses_of sites) line address here.has.is.line in
      let long : length (addresses_of sites) ≡ length sites = length-map sites (λ (s : SiteVersions). s.address) in
      let lt : line < length sites = omega arith in
      elim (slice_get_cases sites line).1 [
        | inl some ↦
            let site = get_or sites line some.0 in
            let of : site.address ≡ address =
            let both : Some site.address ≡ Some address =
            sym (slice_get-map (λ (s : SiteVersions). s.address) sites line
            ∙ ap (option_map (λ (s : SiteVersions). s.address)) (slice_get-get_or sites line some.0 lt)) ∙ here.has.is.line in
            cc in
            let found = explained line some.0 lt in
            record {
              versions = site.versions.items;
              explains = subst (λ (k : ℕ). IsExplainedBy timed (at_address k accesses) (last_at k trace) site.versions.items) of found.0;
              each = λ j b at_b same.
                  let next = there j b at_b in
                  let x = next.has.entry in
                  let on : x.op.line ≡ line =
                  one_line (addresses_of sites) x.op.line line address is.rising (next.has.is.line ∙ ap Some same) here.has.is.line in
                  let among = among_passing (is_on_line line) is.entries j x next.has.at (eq-eqb x.op.line line on) in
                  let counts = count_line (addresses_of sites) [] accesses is.entries j line address is.rising here.has.is.line is.same in
                  ap (slice_get site.versions.items) (sym counts)
                  ∙ (ap (λ (vs : List ℕ). slice_get vs (count_by (is_on_line line) (take j is.entries))) (sym (is.versions line some.0 lt))
                  ∙ (slice_get-map (λ (e : Entry). e.version) (filter (is_on_line line) is.entries) (count_by (is_on_line line) (take j is.entries))
                  ∙ ap (option_map (λ (e : Entry). e.version)) among));
            }
        | inr none_ ↦ let over = none_.0 in absurd (omega arith)
      ]

  -- an operation among those at its address
  at_site : (i : ℕ) (a : Access) → IsAt accesses i a → (address : ℕ) → a.address ≡ address
      → IsAt (at_address address accesses) (count_by (is_at address) (take i accesses)) a
  at_site i a at address same = among_passing (is_at address) accesses i a at (eq-eqb a.address address same)

  -- the versions of two operations whose words are parted
  parted_rise : (i j : ℕ) (a b : Access) (at_a : IsAt accesses i a) (at_b : IsAt accesses j b) → AreAtOneAddress trace a b
      → (steps : List Step)
      → IsPath timed (at_address a.address accesses) (last_at a.address trace) None steps (record { low = left_by a.kind; high = left_by b.kind })
      → (there i a at_a).has.entry.version < (there j b at_b).has.entry.version
  parted_rise i j a b at_a at_b one steps path =
      let address = a.address in
      let vs = versions_at i a at_a in
      let here = at_address address accesses in
      let site = site_known accesses here address known refl in
      let e = explanation timed here (last_at address trace) vs.versions site vs.explains in
      let of = are_of timed here (last_at address trace) vs.versions site vs.explains in
      let k = count_by (is_at address) (take i accesses) in
      let m = count_by (is_at address) (take j accesses) in
      let at_k = at_site i a at_a address refl in
      let at_m = at_site j b at_b address (sym one.same) in
      let less = below e one.once k m (left_by a.kind) a b at_k at_m refl (steps, path) in
      let low : Some (there i a at_a).has.entry.version ≡ Some (version_in e k a at_k) = sym (vs.each i a at_a refl) ∙ of k a at_k in
      let high : Some (there j b at_b).has.entry.version ≡ Some (version_in e m b at_m) = sym (vs.each j b at_b (sym one.same)) ∙ of m b at_m in
      let low_same : (there i a at_a).has.entry.version ≡ version_in e k a at_k = cc in
      let high_same : (there j b at_b).has.entry.version ≡ version_in e m b at_m = cc in
      omega arith

  -- the places of an operation that writes a word and of another one that finds and leaves it
  reads_from : (i j : ℕ) (a b : Access) (at_a : IsAt accesses i a) (at_b : IsAt accesses j b) → AreAtOneAddress trace a b → is_writing a.kind ≡ true
      → is_writing b.kind ≡ false → left_by a.kind ≡ left_by b.kind → place (there i a at_a).has.entry < place (there j b at_b).has.entry
  reads_from i j a b at_a at_b one writing reading same =
      let address = a.address in
      let vs = versions_at i a at_a in
      let here = at_address address accesses in
      let site = site_known accesses here address known refl in
      let e = explanation timed here (last_at address trace) vs.versions site vs.explains in
      let of = are_of timed here (last_at address trace) vs.versions site vs.explains in
      let k = count_by (is_at address) (take i accesses) in
      let m = count_by (is_at address) (take j accesses) in
      let at_k = at_site i a at_a address refl in
      let at_m = at_site j b at_b address (sym one.same) in
      let y = (there i a at_a).has in
      let x = (there j b at_b).has in
      let low : Some y.entry.version ≡ Some (version_in e k a at_k) = sym (vs.each i a at_a refl) ∙ of k a at_k in
      let high : Some x.entry.version ≡ Some (version_in e m b at_m) = sym (vs.each j b at_b (sym one.same)) ∙ of m b at_m in
      let low_same : y.entry.version ≡ version_in e k a at_k = cc in
      let high_same : x.entry.version ≡ version_in e m b at_m = cc in
      let makes_y = making_of a.kind (addresses_of sites) (take i is.entries) a y.entry refl y.is ∙ writing_makes a.kind writing in
      let makes_x = making_of b.kind (addresses_of sites) (take j is.entries) b x.entry refl x.is in
      elim (cases_Bool (is_making b.kind)) [
        | inl making ↦
            let less = reads_same e one.once k m a b at_k at_m b.kind refl writing reading making same in
            place_rises y.entry x.entry (omega arith)
        | inr loads ↦
            let le = behind_writer e one.once k m a b at_k at_m writing same in
            place_maker y.entry x.entry makes_y (makes_x ∙ loads) (omega arith)
      ]

  -- ---- a cycle

  stands_first : (why : Reason) (i j : ℕ) (a b : Access) → IsAt accesses i a → IsAt accesses j b → StandsFirst timed trace why i j a b
      → stands_in i a < stands_in j b
  stands_first reason.Program i j a b at_a at_b first = by_program i j a b at_a at_b first.0 first.1
  stands_first reason.ReadsFrom i j a b at_a at_b first =
      by_place i j a b at_a at_b first.0.same (reads_from i j a b at_a at_b first.0 first.1 first.2 first.3)
  stands_first (reason.Words steps) i j a b at_a at_b first =
      by_place i j a b at_a at_b first.0.same
      (place_rises (there i a at_a).has.entry (there j b at_b).has.entry (parted_rise i j a b at_a at_b first.0 steps.items first.1))

  linked : (link : Link) (y : Access) → IsAt accesses link.place y → (links : List Link) (to : ℕ) (x : Access) → IsAt accesses to x
      → AreLinked timed trace link y links to x → stands_in link.place y < stands_in to x
  linked link y at_y [] to x at_x are = stands_first link.reason link.place to y x at_y at_x are
  linked link y at_y (next ∷ links) to x at_x are =
      let first = stands_first link.reason link.place next.place y are.0 at_y are.1 are.2 in
      let rest = linked next are.0 are.1 links to x at_x are.3 in
      omega arith

  cycle : (links : List Link) → IsCycle timed trace links → ⊥
  cycle [] round = round
  cycle (link ∷ links) round = let less = linked link round.0 round.1 links link.place round.0 round.1 round.2 in absurd (omega arith)

pub rules_out_order : (timed : Bool) (trace : Trace) (links : List Link) → AreKnown trace.accesses.items → IsCycle timed trace links
    → HasNoOrderAtAll timed trace
rules_out_order timed trace links known round = λ sites log explained is sequential.
    cycle timed trace sites log sequential.0 known explained is sequential.1 links round

-- ---- the check of a cycle

-- a link more in front of some
pub linked_step : (timed : Bool) (trace : Trace) (link next : Link) (links rest : List Link) (to : ℕ) (z y : Access) → links ≡ next ∷ rest
    → IsFirst timed trace link next.place → IsAt trace.accesses.items next.place y → AreLinked timed trace next y rest to z
    → (x : Access) × IsAt trace.accesses.items link.place x × AreLinked timed trace link x links to z
linked_step timed trace link next links rest to z y is first at_y linked = grind (arith, one_access)

-- the last link
pub linked_end : (timed : Bool) (trace : Trace) (link : Link) (links : List Link) (to : ℕ) → links ≡ [] → IsFirst timed trace link to
    → (y z : Access) × IsAt trace.accesses.items link.place y × IsAt trace.accesses.items to z × AreLinked timed trace link y links to z
linked_end timed trace link links to is first = grind arith

-- an operation more in front of some
pub turn_step : (timed : Bool) (accesses : List Access) (from next : ℕ) (through rest : List ℕ) (to : ℕ) (z y x w : Access) → through ≡ next ∷ rest
    → IsAt accesses next x → IsAt accesses next w → ComesBefore timed from next y x → AreInTurn timed accesses next w rest to z
    → AreInTurn timed accesses from y through to z
turn_step timed accesses from next through rest to z y x w is at_x at_w before turn = grind (arith, one_access)
