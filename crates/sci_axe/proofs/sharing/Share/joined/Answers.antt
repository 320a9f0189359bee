use Rattle.std.proofs.Common.{◌≡◌, ◌++◌, ◌∷◌, ◌∙◌, [], ap, length, length-append, sym, append_assoc, List, arith}
use Rattle.std.proofs.lemmas.Result.{IfOk-at_ok}
use Rattle.sci_axe.specs.Parts.{ArePartExplained, IsPartJudged}
use Rattle.sci_axe.proofs.Parts.{each_more, named_more, next_judged, rising_more}
use Rattle.sci_axe.proofs.sharing.Share.joined.Goals as goal

pub loop-judgement-preserved : goal.loop-judgement-preserved
loop-judgement-preserved c =
    let share = c.args.self.now in
    let timed = share.way.timed in
    let cuts = share.cuts.now in
    let trace = share.trace.now in
    let done = c.loop-judgement.yielded in
    let rest = c.next.new.self.rest.items in
    let one = c.in-Some.judgement in
    let inv = c.loop-judgement.invariant in
    let together : done ++ one ∷ rest ≡ c.args.judgements.items =
    ap (λ (xs : List _). done ++ xs) (sym c.in-Some.ensures.steps.0) ∙ inv.parted in
    let judged = IfOk-at_ok (IsPartJudged timed cuts (length done) trace) c.in_ok-fault.was
    (next_judged timed cuts trace done rest c.args.judgements.items one together c.requires.each) in
    let here : ArePartExplained timed cuts (length done) trace c.in-Coherent.sites.items = rw c.in-Coherent.is at judged in
    let sites = c.in_ok-append-in-Coherent.ensures.items in
    let long = length-append done (one ∷ []) in
    record {
      parted = append_assoc done (one ∷ []) rest ∙ together;
      named = λ address.
          let more = named_more timed cuts trace (length done) c.loop-judgement.explained.items c.in-Coherent.sites.items c.append.new.self.items sites
          inv.named here address in (
            (λ names. more.0 (names.0, let below = names.1 in omega (arith, below, long))),
            (λ had. let names = more.1 had in (names.0, let below = names.1 in omega (arith, below, long))),
          );
      rising = rising_more timed cuts trace (length done) c.loop-judgement.explained.items c.in-Coherent.sites.items c.append.new.self.items sites
          inv.named inv.rising here;
      each = each_more timed cuts trace (length done) c.loop-judgement.explained.items c.in-Coherent.sites.items c.append.new.self.items sites
          inv.each here;
    }
