use Rattle.std.proofs.Common.{◌≡◌, ◌∷◌, ◌++◌, ◌+◌, ◌≤◌, [], ℕ, List, sym, ap, subst, ◌∙◌, refl, true, false, arith}
use Rattle.std.proofs.lemmas.List.{map-append}
use Rattle.std.specs.Prelude.{Ok, Err}
use Rattle.sci_options.specs.declared.given.Wrong.TheVariants.{Again}
use Rattle.sci_options.specs.Options.{begins_option, is_given}
use Rattle.sci_options.specs.Given.{Takes, texts}
use Rattle.sci_options.proofs.Steps.{again_taken, begins_few, none_taken, taken_alone, taken_setting}
use Rattle.sci_options.proofs.given.Given.take.Goals as goal

pub returns-in-Ok : goal.returns-in-Ok
returns-in-Ok c =
    let word = c.in-Some.word.now in
    let are : texts c.args.words.now ≡ word.now ∷ texts c.in-Some.more.now = ap texts c.in-Some.ensures.cases.0 in
    let plain : begins_option word.now ≡ false = sym c.begins_option.ensures ∙ c.if-not-begins_option.true in
    let added : texts c.push.new.self.items ≡ texts c.args.self.now.alone.items ++ (word.now ∷ []) =
    ap texts c.in-Ok.ensures.items ∙ map-append (λ w. w.now) c.args.self.now.alone.items (word ∷ []) in
    subst (λ (ws : List (List ℕ)). Takes c.args.options.now c.args.self.now (record c.args.self.now { alone = c.push.new.self }) ws (Ok 1)) (sym are)
    (taken_alone c.args.options.now c.args.self.now (record c.args.self.now { alone = c.push.new.self }) word.now (texts c.in-Some.more.now) plain refl added)

pub returns-in_default-setting_in_front : goal.returns-in_default-setting_in_front
returns-in_default-setting_in_front c =
    let word = c.in-Some.word.now in
    let are : texts c.args.words.now ≡ word.now ∷ texts c.in-Some.more.now = ap texts c.in-Some.ensures.cases.0 in
    let option : begins_option word.now ≡ true = sym c.begins_option.ensures ∙ c.if-not-begins_option.false in
    subst (λ (ws : List (List ℕ)). Takes c.args.options.now c.args.self.now c.args.self.now ws (Err c.wrong_at.result)) (sym are)
    (none_taken c.args.options.now c.args.self.now c.args.self.now word.now (texts c.in-Some.more.now) c.setting_in_front.result c.wrong_at.result option
    c.in_default-setting_in_front.is c.setting_in_front.ensures)

pub returns-then-has : goal.returns-then-has
returns-then-has c =
    let word = c.in-Some.word.now in
    let setting = c.in-Some-setting_in_front.setting in
    let are : texts c.args.words.now ≡ word.now ∷ texts c.in-Some.more.now = ap texts c.in-Some.ensures.cases.0 in
    let given : is_given setting.name c.args.self.now.settings.items ≡ true = sym c.has.ensures ∙ c.if-has.true in
    subst (λ (ws : List (List ℕ)). Takes c.args.options.now c.args.self.now c.args.self.now ws (Err (Again setting.name))) (sym are)
    (again_taken c.args.options.now c.args.self.now c.args.self.now word.now (texts c.in-Some.more.now) c.setting_in_front.result setting
    c.in-Some-setting_in_front.count c.in-Some-setting_in_front.is c.setting_in_front.ensures given)

pub overflow_add-result : goal.overflow_add-result
overflow_add-result c =
    let begins = (c.setting_in_front.ensures c.in-Some-setting_in_front.setting c.in-Some-setting_in_front.count).0 c.in-Some-setting_in_front.is in
    let few : c.in-Some-setting_in_front.count ≤ 2 =
    begins_few c.args.options.now c.in-Some.word.now.now (texts c.in-Some.more.now) c.in-Some-setting_in_front.setting
    c.in-Some-setting_in_front.count begins in
    omega arith

pub returns-in-Ok-push : goal.returns-in-Ok-push
returns-in-Ok-push c =
    let word = c.in-Some.word.now in
    let setting = c.in-Some-setting_in_front.setting in
    let count = c.in-Some-setting_in_front.count in
    let are : texts c.args.words.now ≡ word.now ∷ texts c.in-Some.more.now = ap texts c.in-Some.ensures.cases.0 in
    let new : is_given setting.name c.args.self.now.settings.items ≡ false = sym c.has.ensures ∙ c.if-has.false in
    subst (λ (ws : List (List ℕ)). Takes c.args.options.now c.args.self.now (record c.args.self.now { settings = c.push-2.new.self }) ws (Ok (1 + count)))
    (sym are)
    (taken_setting c.args.options.now c.args.self.now (record c.args.self.now { settings = c.push-2.new.self }) word.now (texts c.in-Some.more.now)
    c.setting_in_front.result setting count c.in-Some-setting_in_front.is c.setting_in_front.ensures new c.in-Ok-push.ensures.items refl)
