use Rattle.std.proofs.Common.{◌≡◌, ◌<◌, List, [], ◌∷◌, ◌++◌, Option, ap, append_assoc, ℕ, rules, subst, sym, ◌∙◌, arith}
use Rattle.std.proofs.lemmas.{List.{append-nil, map-append}, List.Elements.{All-push}, List.Kept.{AllPairs-from_increasing}}
use Rattle.std.proofs.lemmas.Map.{Keys.{IsStrictlyIncreasing-from_sorted}, Lookups.{exact_unsigned}, Views.{btree_set_contains_iff}}
use Rattle.std.specs.{BTreeSet.{keys}, Cmp.{nat_cmp_total}, List.{All, AllPairs, Contains}}
use Rattle.sci_judge.specs.declared.{access.Access.{Access}, finding.Finding.TheVariants.{Coherent, NotCoherent}}
use Rattle.sci_judge.specs.declared.{judging.SiteVersions.{SiteVersions}}
use Rattle.sci_judge.specs.Judgement.{IsExplainedAt, IsFinding, addresses_of, at_address, last_at}
use Rattle.sci_judge.proofs.Runs.{site_known}
use Rattle.sci_judge.proofs.judging.judge.Goals as goal

pub loop-at-init : goal.loop-at-init
loop-at-init c = record { parted = search rules; each = search rules }

pub judge-requires : goal.judge-requires
judge-requires c = grind (arith, site_known)

pub returns-in-NotCoherent : goal.returns-in-NotCoherent
returns-in-NotCoherent c =
    let address = c.in-Some.at.now in
    let trace = c.args.trace.now in
    let witness = c.in-NotCoherent.witness in
    let is : c.operations_at.result.now ≡ at_address address trace.accesses.items =
    c.operations_at.ensures ∙ (ap (at_address address) c.deref-in-loop-at.ensures.value
    ∙ (c.in_ok-sorted.ensures.same address ∙ ap (at_address address) c.deref.ensures.value)) in
    let last : c.copied.result ≡ last_at address trace = c.copied.ensures ∙ c.get.ensures.value in
    let finding : IsFinding c.args.way.timed c.operations_at.result.now c.copied.result (NotCoherent witness) =
    rw c.in-NotCoherent.is at c.in_ok-versions.ensures in
    let there : IsFinding c.args.way.timed (at_address address trace.accesses.items) c.copied.result (NotCoherent witness) =
    subst (λ (xs : List Access). IsFinding c.args.way.timed xs c.copied.result (NotCoherent witness)) is finding in (
      c.in_ok-accesses-in-NotCoherent.ensures.items ∙ is,
      subst (λ (known : Option ℕ). IsFinding c.args.way.timed (at_address address trace.accesses.items) known (NotCoherent witness)) last there,
    )

pub loop-at-preserved : goal.loop-at-preserved
loop-at-preserved c =
    let address = c.in-Some.at.now in
    let trace = c.args.trace.now in
    let there : SiteVersions = record { address = address; versions = c.in-Coherent.versions; freedom = c.in-Coherent.freedom } in
    let is : c.operations_at.result.now ≡ at_address address trace.accesses.items =
    c.operations_at.ensures ∙ (ap (at_address address) c.deref-in-loop-at.ensures.value
    ∙ (c.in_ok-sorted.ensures.same address ∙ ap (at_address address) c.deref.ensures.value)) in
    let last : c.copied.result ≡ last_at address trace = c.copied.ensures ∙ c.get.ensures.value in
    let finding : IsFinding c.args.way.timed c.operations_at.result.now c.copied.result (Coherent c.in-Coherent.versions c.in-Coherent.freedom) =
    rw c.in-Coherent.is at c.in_ok-versions.ensures in
    let versions = c.in-Coherent.versions in
    let freedom = c.in-Coherent.freedom in
    let found : IsFinding c.args.way.timed (at_address address trace.accesses.items) (last_at address trace) (Coherent versions freedom) =
    subst (λ (known : Option ℕ). IsFinding c.args.way.timed (at_address address trace.accesses.items) known (Coherent versions freedom)) last
    (subst (λ (xs : List Access). IsFinding c.args.way.timed xs c.copied.result (Coherent versions freedom)) is finding) in
    let pushed = c.in_ok-push-in-Coherent.ensures.items in
    let rest : c.loop-at.at-iterator ≡ address ∷ c.next.new.self = c.in-Some.ensures.steps in
    record {
      parted = ap (λ (ks : List ℕ). ks ++ c.next.new.self) (ap addresses_of pushed
          ∙ map-append (λ (e : SiteVersions). e.address) c.loop-at.explained.items (there ∷ []))
          ∙ (append_assoc (addresses_of c.loop-at.explained.items) (address ∷ []) c.next.new.self
          ∙ (ap (λ (ks : List ℕ). addresses_of c.loop-at.explained.items ++ ks) (sym rest) ∙ c.loop-at.invariant.parted));
      each = subst (All (IsExplainedAt c.args.way.timed trace)) (sym pushed)
          (All-push (IsExplainedAt c.args.way.timed trace) c.loop-at.explained.items there c.loop-at.invariant.each found);
    }

pub returns : goal.returns
returns c =
    let addresses = c.in_ok-addresses.addresses in
    let gone : c.loop-at.at-iterator ≡ [] = search rules in
    let all : addresses_of c.loop-at.explained.items ≡ keys addresses =
    sym (append-nil (addresses_of c.loop-at.explained.items))
    ∙ (ap (λ (ks : List ℕ). addresses_of c.loop-at.explained.items ++ ks) (sym gone)
    ∙ (c.loop-at.invariant.parted ∙ (c.into_iter-at-iterator.ensures.into_iter_gives ∙ c.iter-at-items.ensures.rest))) in
    let known = btree_set_contains_iff nat_cmp_total exact_unsigned addresses in
    record {
      named = λ address. (
        (λ names. subst (λ (ks : List ℕ). Contains ks address) (sym all) ((known address).0 ((c.in_ok-addresses.ensures address).0 names))),
        (λ had. (c.in_ok-addresses.ensures address).1 ((known address).1 (subst (λ (ks : List ℕ). Contains ks address) all had))),
      );
      rising = subst (AllPairs (λ (x y : ℕ). x < y)) (sym all)
          (AllPairs-from_increasing (keys addresses) (IsStrictlyIncreasing-from_sorted (keys addresses) c.iter-at-items.ensures.ordered));
      each = c.loop-at.invariant.each;
    }
