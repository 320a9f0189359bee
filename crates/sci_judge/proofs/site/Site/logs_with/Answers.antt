use Rattle.std.proofs.lemmas.Option.{slice_get_read}
use Rattle.std.proofs.Common.{length, refl, ◌≡◌, ◌<◌, ℕ, get_or, sym, ap, subst, ◌∙◌}
use Rattle.sci_words.specs.declared.limits.TheConstants.{MAX_NODES}
use Rattle.sci_history.specs.declared.entry.Entry.{Entry}
use Rattle.sci_judge.specs.Coherent.{entry_of}
use Rattle.sci_judge.proofs.{Once.{no_access}, Stamps.{stamped_push}}
use Rattle.sci_judge.proofs.site.Site.logs_with.Goals as goal

pub loop-place-preserved : goal.loop-place-preserved
loop-place-preserved c =
    let xs = c.args.self.now.accesses.now in
    let i = c.loop-place.place in
    let a = get_or xs i no_access in
    let version = c.in-Ok-Some.version.now in
    let entry = c.entry_with.result in
    let is : entry ≡ record (entry_of i a) { version = version } =
    c.entry_with.ensures ∙ ap (λ (k : ℕ). record (entry_of k a) { version = version }) c.in-Ok-Some.ensures.1 in
    let small : entry.node < MAX_NODES =
    subst (λ (k : ℕ). k < MAX_NODES) (sym (ap (λ (e : Entry). e.node) is)) (c.requires i no_access c.loop-place-test.true) in
    let looked = c.in-Ok-Some.ensures'.lookup in
    let found = slice_get_read c.args.versions.now (length c.args.versions.now) i version refl looked.3.0 looked.1 in
    stamped_push xs c.args.versions.now i version no_access c.loop-place.logs c.push.new.self entry c.loop-place-test.true
    c.loop-place.invariant is small c.in-Ok.ensures.ok found
