-- Each round that is next lowers the number of those that are left.
use Rattle.std.proofs.Common.{◌≡◌, ◌≢◌, ◌⊎◌, ℕ, ◌+◌, ◌<◌, not, ◌&&◌, ◌==◌, Bool, true, false, if◌then◌else◌, Option, Some, None, refl, sym, ap, subst, ◌∙◌}
use Rattle.std.proofs.{Common.{arith, rules, inl, inr}, lemmas.Bool.{cases_eq, cases_lt, eq-eqb, eqb-true, lt-ltb}}
use Rattle.std.specs.Prelude.{IsSome}
use Rattle.sci_words.specs.declared.{stamped.Stamped.{Stamped}, event.AskKind.{AskKind}}
use Rattle.sci_packets.specs.declared.body.Body.{Body}
use Rattle.sci_home.specs.{declared.state.HomeState.{HomeState}, Serving.{head_of, home_serving}}
use Rattle.sci_cache.specs.State.{CacheState, Out, Joining, FreshJoining, Head, FreshHead, Below, Purging, Claiming, Clearing, Returning, Rolling, Telling}
use Rattle.sci_cache.specs.{State.{is_out, waits}, Accepting.{accepting}, Asking.{Asked, asking}}
use Rattle.sci_cache.specs.{Serving.{serving, serving_setback}, Cache.{has_slot, line_of}, Member.{link_of}}
use Rattle.sci_core.specs.{Core.{Core, node_at}, Draining.{IsDrained}, Node.{NodeOf, lines_of, node_asking}}
use Rattle.sci_core.specs.Reached.{IsReached}
use Rattle.sci_core.specs.Rounds.{At_home, In_cache, IsRepliedTo, IsNext, IsRound, IsServed, Joins, Parts, Tells, entry_rank, is_head, is_telling}
use Rattle.sci_core.specs.{Rounds.{joins_before, parting, rank, server_of}, Shape.{state_at}, Sharing.{home_at}}
use Rattle.sci_core.specs.{WellFormed.{NamesNodes}}
use Rattle.sci_core.proofs.{Shape.Standings.{role_of}, WellFormed.WellFormedSteps.{reached_well}}
use Rattle.sci_core.proofs.Settling.Ranks.{Pair, rank_shift, rank_two}
use Rattle.sci_core.proofs.Settling.Resting.{Quiet, head_first, home_fresh, home_gone, line_known, next_below, next_fresh, out_beyond, quiet}
use Rattle.sci_core.proofs.{Settling.Shifts.{Shifts}, Basics.Options.{same_some}}
use Rattle.sci_cache.specs.Member.{is_fresh}
use Rattle.sci_words.specs.declared.event.AskKind.TheVariants as kind
use Rattle.sci_packets.specs.declared.body.Body.TheVariants as body
use Rattle.sci_home.specs.declared.state.HomeState.TheVariants as at

no_answer : {X Y : Type 0} (o : Option X) (x : X) → o ≡ None → o ≡ Some x → Y
no_answer o x none some = let clash : None ≡ Some x = sym none ∙ some in cc

-- ---- states of a line at rest

one_of : (s : CacheState) → is_head s ≡ true → ((f : Option ℕ) × (c : Stamped) × (s ≡ Head f c)) ⊎ ((f : Option ℕ) × (c : Stamped) × (s ≡ FreshHead f c))
one_of (Head f c) is = inl (f, c, refl)
one_of (FreshHead f c) is = inr (f, c, refl)
one_of _ is = cc

teller_is : (s : CacheState) → is_telling s ≡ true → waits s ≡ false → (r : ℕ) × (w : ℕ) × (s ≡ Telling r w false)
teller_is (Telling r w true) is quiet = cc
teller_is (Telling r w false) is quiet = (r, w, refl)
teller_is _ is quiet = cc

joiner_is : (s : CacheState) (a : ℕ) → joins_before s a ≡ true → waits s ≡ false → (s ≡ Joining a false) ⊎ ((c : Stamped) × (s ≡ FreshJoining a false c))
joiner_is (Joining p true) a is quiet = cc
joiner_is (Joining p false) a is quiet = inl (ap (λ (k : ℕ). Joining k false) (eqb-true p a is))
joiner_is (FreshJoining p true c) a is quiet = cc
joiner_is (FreshJoining p false c) a is quiet = inr (c, ap (λ (k : ℕ). FreshJoining k false c) (eqb-true p a is))
joiner_is _ a is quiet = cc

-- ---- a request that can be asked

pub asks_if : (part : NodeOf) (line : ℕ) (ask : AskKind) (made : Asked) → line < lines_of part → asking (line_of part.cache line).state ask ≡ Some made
    → (is_out (line_of part.cache line).state && not (has_slot part.cache)) ≡ false → IsSome (node_asking part line ask)
asks_if part line ask made below is free = grind (arith, lt-ltb)

-- ---- a round whose request is known

pub known : (core new : Core) (n line : ℕ) (ask : AskKind) (a : Asked) → IsRound core new n line ask → asking (state_at core line n) ask ≡ Some a
    → IsRepliedTo core new n line a
known core new n line ask a r is = subst (IsRepliedTo core new n line) (same_some r.asked a (sym r.asks ∙ is)) r.answered

-- ---- the home serves: the asker's state alone changes

-- what the home does
pub record Homely (core : Core) (n line : ℕ) (a : Asked) (final : CacheState) : Type 0 where
  pub home : HomeState
  pub answer : Body
  pub serves : home_serving (home_at core line) n a.request ≡ Some (home, answer)
  pub alone : (s : CacheState) → serving s n a.request ≡ None
  pub accepts : accepting a.next answer ≡ Some final

record AtHome (core : Core) (n line : ℕ) (a : Asked) (k_old k_served : CacheState) (answer : Body) : Type 0 where
  pub stays : k_served ≡ k_old
  pub answers : (home : HomeState) × (home_serving (home_at core line) n a.request ≡ Some (home, answer))

at_home : (core : Core) (n line : ℕ) (a : Asked) (old served : CacheState) (answer : Body) → ((s : CacheState) → serving s n a.request ≡ None)
    → IsServed core n line a.request old served answer → AtHome core n line a old served answer
at_home core n line a old served answer none (At_home home is same) = record { stays = same; answers = (home, is) }
at_home core n line a old served answer none (In_cache is) = no_answer (serving old n a.request) (served, answer) (none old) is

pub home_round : (core new : Core) (n line : ℕ) (a : Asked) (final : CacheState) → IsRepliedTo core new n line a → Homely core n line a final
    → Shifts core new n line final
home_round core new n line a final k h =
    let here = at_home core n line a k.old k.served k.answer h.alone k.serves in
    let same : k.answer ≡ h.answer =
    ap (λ (p : HomeState × Body). p.1) (same_some (here.answers.0, k.answer) (h.home, h.answer) (sym here.answers.1 ∙ h.serves)) in
    let taker : k.taker ≡ a.next = elim (cases_eq k.server n) [
      | inl e ↦ k.taker_itself e ∙ (here.stays ∙ k.itself e)
      | inr other ↦ k.taker_another other
    ] in
    let last = same_some k.final final (sym k.accepts ∙ (ap (λ (s : CacheState). accepting s k.answer) taker ∙ (ap (accepting a.next) same ∙ h.accepts))) in
    record {
      here = k.asker ∙ last;
      others = λ m j not. elim (cases_eq m n) [
        | inl e ↦ k.others m j (λ line_is who. not (e, line_is))
        | inr apart ↦ elim (cases_eq m k.server) [
          | inl server ↦ elim (cases_eq j line) [
            | inl on ↦
                let other : k.server ≢ n = λ e. apart (server ∙ e) in
                let stood : state_at new line k.server ≡ state_at core line k.server = k.then_ other ∙ (here.stays ∙ k.another other) in
                ap (λ (i : ℕ). state_at new i m) on
                ∙ (ap (state_at new line) server ∙ (stood ∙ (ap (state_at core line) (sym server) ∙ ap (λ (i : ℕ). state_at core i m) (sym on))))
            | inr off ↦ k.others m j (λ e who. off e)
          ]
          | inr neither ↦ k.others m j (λ e who. elim who [ inl x ↦ apart x | inr y ↦ neither y ])
        ]
      ];
      pending = k.pending;
      size = k.size;
    }

-- ---- another cache serves: its state changes too

record Cached (core : Core) (n line q : ℕ) (a : Asked) (served final : CacheState) : Type 0 where
  pub to : a.to ≡ Some q
  pub apart : n ≢ q
  pub answer : Body
  pub serves : serving (state_at core line q) n a.request ≡ Some (served, answer)
  pub alone : (h : HomeState) → home_serving h n a.request ≡ None
  pub accepts : accepting a.next answer ≡ Some final

in_cache : (core : Core) (n line : ℕ) (a : Asked) (old served : CacheState) (answer : Body) → ((h : HomeState) → home_serving h n a.request ≡ None)
    → IsServed core n line a.request old served answer → serving old n a.request ≡ Some (served, answer)
in_cache core n line a old served answer none (At_home home is same) =
    no_answer (home_serving (home_at core line) n a.request) (home, answer) (none (home_at core line)) is
in_cache core n line a old served answer none (In_cache is) = is

cache_round : (core new : Core) (n line q : ℕ) (a : Asked) (served final : CacheState) → IsRepliedTo core new n line a → Cached core n line q a served final
    → Pair core new n q line final served
cache_round core new n line q a served final k h =
    let server : k.server ≡ q = k.to ∙ ap (server_of core line) h.to in
    let other : k.server ≢ n = λ e. h.apart (sym e ∙ server) in
    let old : k.old ≡ state_at core line q = k.another other ∙ ap (state_at core line) server in
    let is = in_cache core n line a k.old k.served k.answer h.alone k.serves in
    let both = same_some (k.served, k.answer) (served, h.answer) (sym is ∙ (ap (λ (s : CacheState). serving s n a.request) old ∙ h.serves)) in
    let now : k.served ≡ served = ap (λ (p : CacheState × Body). p.0) both in
    let same : k.answer ≡ h.answer = ap (λ (p : CacheState × Body). p.1) both in
    let last = same_some k.final final
    (sym k.accepts ∙ (ap (λ (s : CacheState). accepting s k.answer) (k.taker_another other) ∙ (ap (accepting a.next) same ∙ h.accepts))) in
    record {
      first = k.asker ∙ last;
      second = ap (state_at new line) (sym server) ∙ (k.then_ other ∙ now);
      others = λ m j not. k.others m j (λ e who. not e (elim who [ inl x ↦ inl x | inr y ↦ inr (y ∙ server) ]));
      size = k.size;
    }

-- ---- each row

-- who tells is out then, and nobody else gets or loses an entry
telling_same : (s : CacheState) (n w : ℕ) → (entry_rank (serving_setback s n w).0 ≡ entry_rank s) × ((serving_setback s n w).1 ≡ body.Told)
telling_same (Below f b c) n w = search rules
telling_same (Rolling f b c) n w = search rules
telling_same _ n w = search rules

told_lowers : (core new : Core) (n line r w : ℕ) → n < core.size.nodes → line < core.size.lines → r < core.size.nodes → state_at core line n ≡ Telling r w false
    → IsRepliedTo core new n line (record { to = Some r; request = body.Setback w; next = Telling r w true }) → rank new < rank core
told_lowers core new n line r w lt inside below was k =
    let a : Asked = record { to = Some r; request = body.Setback w; next = Telling r w true } in
    let is = in_cache core n line a k.old k.served k.answer (λ h. refl) k.serves in
    let both : serving_setback k.old n w ≡ (k.served, k.answer) = same_some (serving_setback k.old n w) (k.served, k.answer) is in
    let told : k.answer ≡ body.Told = sym (ap (λ (p : CacheState × Body). p.1) both) ∙ (telling_same k.old n w).1 in
    let server : k.server ≡ r = k.to in
    let ranked : entry_rank (state_at core line n) ≡ 1 = ap entry_rank was in
    elim (cases_eq k.server n) [
      | inl e ↦
          let old : k.old ≡ Telling r w true = k.itself e in
          let still : (Telling r w true, body.Told) ≡ (k.served, k.answer) = ap (λ (s : CacheState). serving_setback s n w) (sym old) ∙ both in
          let taker : k.taker ≡ Telling r w true = k.taker_itself e ∙ sym (ap (λ (p : CacheState × Body). p.0) still) in
          let out : k.final ≡ Out = same_some k.final Out
          (sym k.accepts ∙ (ap (λ (s : CacheState). accepting s k.answer) taker ∙ ap (λ (b : Body). accepting (Telling r w true) b) told)) in
          let shift : Shifts core new n line Out = record {
            here = k.asker ∙ out;
            others = λ m j not. k.others m j (λ on who. not (elim who [ inl x ↦ x | inr y ↦ y ∙ e ], on));
            pending = k.pending;
            size = k.size;
          } in
          let one = rank_shift core new n line Out lt inside shift in
          omega arith
      | inr other ↦
          let old : k.old ≡ state_at core line k.server = k.another other in
          let taker = k.taker_another other in
          let out : k.final ≡ Out = same_some k.final Out
          (sym k.accepts ∙ (ap (λ (s : CacheState). accepting s k.answer) taker ∙ ap (λ (b : Body). accepting (Telling r w true) b) told)) in
          let same : entry_rank k.served ≡ entry_rank (state_at core line k.server) =
          ap entry_rank (sym (ap (λ (p : CacheState × Body). p.0) both)) ∙ ((telling_same k.old n w).0 ∙ ap entry_rank old) in
          let pair : Pair core new n k.server line Out k.served = record { first = k.asker ∙ out; second = k.then_ other; others = k.others; size = k.size } in
          let some : k.server < core.size.nodes = subst (λ (i : ℕ). i < core.size.nodes) (sym server) below in
          let two = rank_two core new n k.server line Out k.served lt some inside (λ e. other (sym e)) pair in
          omega arith
    ]

-- a head that isn't fresh, or is: by what the home keeps
pub if_same : {X : Type 0} (n : ℕ) (x y : X) → (if n == n then x else y) ≡ x
if_same n x y = ap (λ (b : Bool). if b then x else y) (eq-eqb n n refl)

wback_lowers : (core new : Core) (n line : ℕ) (c : Stamped) → n < core.size.nodes → line < core.size.lines → state_at core line n ≡ Head None c
    → home_at core line ≡ at.Gone n → IsRepliedTo core new n line (record { to = None; request = body.Wback c; next = Returning c }) → rank new < rank core
wback_lowers core new n line c lt inside was home k =
    let a : Asked = record { to = None; request = body.Wback c; next = Returning c } in
    let serves : home_serving (home_at core line) n (body.Wback c) ≡ Some (at.Home c, body.Wbok) =
    ap (λ (h : HomeState). home_serving h n (body.Wback c)) home ∙ ap Some (if_same n (at.Home c, body.Wbok) (at.Gone n, body.Wbno)) in
    let shift = home_round core new n line a Out k (record { home = at.Home c; answer = body.Wbok; serves = serves; alone = λ s. refl; accepts = refl }) in
    let one = rank_shift core new n line Out lt inside shift in
    let ranked = ap entry_rank was in
    omega arith

claim_lowers : (core new : Core) (n line : ℕ) (f : Option ℕ) (c d : Stamped) → n < core.size.nodes → line < core.size.lines
    → state_at core line n ≡ FreshHead f c → home_at core line ≡ at.Fresh n d
    → IsRepliedTo core new n line (record { to = None; request = body.Claim; next = Claiming f c }) → rank new < rank core
claim_lowers core new n line f c d lt inside was home k =
    let a : Asked = record { to = None; request = body.Claim; next = Claiming f c } in
    let serves : home_serving (home_at core line) n body.Claim ≡ Some (at.Gone n, body.Wbok) =
    ap (λ (h : HomeState). home_serving h n body.Claim) home ∙ ap Some (if_same n (at.Gone n, body.Wbok) (at.Fresh n d, body.Wbno)) in
    let shift = home_round core new n line a (Head f c) k
    (record { home = at.Gone n; answer = body.Wbok; serves = serves; alone = λ s. refl; accepts = refl }) in
    let one = rank_shift core new n line (Head f c) lt inside shift in
    let ranked = ap entry_rank was in
    omega arith

clear_lowers : (core new : Core) (n line : ℕ) (c d : Stamped) → n < core.size.nodes → line < core.size.lines → state_at core line n ≡ FreshHead None c
    → home_at core line ≡ at.Fresh n d → IsRepliedTo core new n line (record { to = None; request = body.Clear; next = Clearing c }) → rank new < rank core
clear_lowers core new n line c d lt inside was home k =
    let a : Asked = record { to = None; request = body.Clear; next = Clearing c } in
    let serves : home_serving (home_at core line) n body.Clear ≡ Some (at.Home d, body.Wbok) =
    ap (λ (h : HomeState). home_serving h n body.Clear) home ∙ ap Some (if_same n (at.Home d, body.Wbok) (at.Fresh n d, body.Wbno)) in
    let shift = home_round core new n line a Out k (record { home = at.Home d; answer = body.Wbok; serves = serves; alone = λ s. refl; accepts = refl }) in
    let one = rank_shift core new n line Out lt inside shift in
    let ranked = ap entry_rank was in
    omega arith

-- the states of two nodes that differ are of two nodes
differ : (core : Core) (line n q : ℕ) (s t : CacheState) → state_at core line n ≡ s → state_at core line q ≡ t → (s ≡ t → ⊥) → n ≢ q
differ core line n q s t is are not e = not (sym is ∙ (ap (state_at core line) e ∙ are))

-- another cache serves, and the ranks of the two are less then
cached_lowers : (core new : Core) (n line q : ℕ) (a : Asked) (was old served final : CacheState) (answer : Body) → n < core.size.nodes → q < core.size.nodes
    → line < core.size.lines → state_at core line n ≡ was → state_at core line q ≡ old → (was ≡ old → ⊥) → a.to ≡ Some q
    → serving old n a.request ≡ Some (served, answer) → ((h : HomeState) → home_serving h n a.request ≡ None) → accepting a.next answer ≡ Some final
    → entry_rank final + entry_rank served < entry_rank was + entry_rank old → IsRepliedTo core new n line a → rank new < rank core
cached_lowers core new n line q a was old served final answer lt below inside here there not to serves alone accepts less k =
    let apart = differ core line n q was old here there not in
    let serves_ = ap (λ (s : CacheState). serving s n a.request) there ∙ serves in
    let pair = cache_round core new n line q a served final k
    (record { to = to; apart = apart; answer = answer; serves = serves_; alone = alone; accepts = accepts }) in
    let two = rank_two core new n q line final served lt below inside apart pair in
    let one = ap entry_rank here in
    let other = ap entry_rank there in
    omega arith

purge_lowers : (core new : Core) (n line q : ℕ) (c : Stamped) (f : Option ℕ) (b : ℕ) (d : Stamped) → n < core.size.nodes → q < core.size.nodes
    → line < core.size.lines → state_at core line n ≡ Head (Some q) c → state_at core line q ≡ Below f b d
    → IsRepliedTo core new n line (record { to = Some q; request = body.Purge; next = Purging q c }) → rank new < rank core
purge_lowers core new n line q c f b d lt below inside was next k =
    cached_lowers core new n line q (record { to = Some q; request = body.Purge; next = Purging q c }) (Head (Some q) c) (Below f b d) Out (Head f c)
    (body.Purged f) lt below inside was next (λ e. cc) refl refl (λ h. refl) refl (omega arith) k

-- who joins before a head
join_lowers : (core new : Core) (n line q : ℕ) (f : Option ℕ) (d : Stamped) → n < core.size.nodes → q < core.size.nodes → line < core.size.lines
    → state_at core line n ≡ Joining q false → (state_at core line q ≡ Head f d) ⊎ (state_at core line q ≡ FreshHead f d)
    → IsRepliedTo core new n line (record { to = Some q; request = body.Cread; next = Joining q true }) → rank new < rank core
join_lowers core new n line q f d lt below inside was (inl head) k =
    cached_lowers core new n line q (record { to = Some q; request = body.Cread; next = Joining q true }) (Joining q false) (Head f d) (Below f n d)
    (Head (Some q) d) (body.Cdata d) lt below inside was head (λ e. cc) refl refl (λ h. refl) refl (omega arith) k
join_lowers core new n line q f d lt below inside was (inr head) k =
    cached_lowers core new n line q (record { to = Some q; request = body.Cread; next = Joining q true }) (Joining q false) (FreshHead f d) (Below f n d)
    (Head (Some q) d) (body.Cdata d) lt below inside was head (λ e. cc) refl refl (λ h. refl) refl (omega arith) k

fresh_join_lowers : (core new : Core) (n line q : ℕ) (c : Stamped) (f : Option ℕ) (d : Stamped) → n < core.size.nodes → q < core.size.nodes
    → line < core.size.lines → state_at core line n ≡ FreshJoining q false c → state_at core line q ≡ FreshHead f d
    → IsRepliedTo core new n line (record { to = Some q; request = body.Cread; next = FreshJoining q true c }) → rank new < rank core
fresh_join_lowers core new n line q c f d lt below inside was head k =
    cached_lowers core new n line q (record { to = Some q; request = body.Cread; next = FreshJoining q true c }) (FreshJoining q false c) (FreshHead f d)
    (Below f n d) (FreshHead (Some q) c) (body.Cdata d) lt below inside was head (λ e. cc) refl refl (λ h. refl) refl (omega arith) k

-- ---- what is next

-- an ask that is next can be made, and lowers the number of rounds that are left
pub record Lowers (core : Core) (n line : ℕ) (ask : AskKind) : Type 0 where
  pub asks : IsSome (node_asking (node_at core n) line ask)
  pub lowers : (new : Core) → IsRound core new n line ask → rank new < rank core

-- a line with an entry needs no free slot
lowers_so : (core : Core) (n line : ℕ) (ask : AskKind) (s : CacheState) (a : Asked) → IsReached core → n < core.size.nodes → line < core.size.lines
    → state_at core line n ≡ s → is_out s ≡ false → asking s ask ≡ Some a → ((new : Core) → IsRepliedTo core new n line a → rank new < rank core)
    → Lowers core n line ask
lowers_so core n line ask s a reached lt inside is entry asks then_ =
    let made = ap (λ (x : CacheState). asking x ask) is ∙ asks in
    record {
      asks = asks_if (node_at core n) line ask a (line_known core n line (node_at core n) reached lt inside refl) made
          (ap (λ (x : CacheState). is_out x && not (has_slot (node_at core n).cache)) is ∙ ap (λ (b : Bool). b && not (has_slot (node_at core n).cache)) entry);
      lowers = λ new round. then_ new (known core new n line ask a round made);
    }

tells_lower : (core : Core) (n line : ℕ) → IsReached core → Quiet core line → n < core.size.nodes → line < core.size.lines
    → is_telling (state_at core line n) ≡ true → Lowers core n line kind.Setback
tells_lower core n line reached q lt inside telling =
    let is = teller_is (state_at core line n) telling (q.waits n) in
    let r = is.0 in
    let w = is.1 in
    let names = ((reached_well core reached).each_part n lt).states line in
    let below : r < core.size.nodes = (subst (NamesNodes core.size.nodes) is.2 names).0 in
    lowers_so core n line kind.Setback (Telling r w false) (record { to = Some r; request = body.Setback w; next = Telling r w true }) reached lt inside is.2
    refl refl (λ new k. told_lowers core new n line r w lt inside below is.2 k)

-- a head is no node beyond the machine's
head_below : (core : Core) (line a : ℕ) → IsReached core → is_head (state_at core line a) ≡ true → a < core.size.nodes
head_below core line a reached head = grind (arith, cases_lt, out_beyond)

joins_lower : (core : Core) (n line a : ℕ) → IsReached core → Quiet core line → n < core.size.nodes → line < core.size.lines
    → is_head (state_at core line a) ≡ true → joins_before (state_at core line n) a ≡ true → Lowers core n line kind.Cread
joins_lower core n line a reached q lt inside head joins =
    let below = head_below core line a reached head in
    elim (joiner_is (state_at core line n) a joins (q.waits n)) [
      | inl joining ↦
          lowers_so core n line kind.Cread (Joining a false) (record { to = Some a; request = body.Cread; next = Joining a true }) reached lt inside joining
          refl refl (λ new k. elim (one_of (state_at core line a) head) [
            | inl stale ↦ join_lowers core new n line a stale.0 stale.1 lt below inside joining (inl stale.2) k
            | inr fresh ↦ join_lowers core new n line a fresh.0 fresh.1 lt below inside joining (inr fresh.2) k
          ])
      | inr fresh_joining ↦
          let c = fresh_joining.0 in
          let is = fresh_joining.1 in
          let fresh = next_fresh core line n a q (ap role_of is) (ap link_of is)
          (ap is_fresh is) in
          lowers_so core n line kind.Cread (FreshJoining a false c) (record { to = Some a; request = body.Cread; next = FreshJoining a true c }) reached lt
          inside is refl refl (λ new k. elim (one_of (state_at core line a) head) [
            | inl stale ↦ (let not : is_fresh (state_at core line a) ≡ false = ap is_fresh stale.2 in
                let clash : true ≡ false = sym fresh ∙ not in absurd cc)
            | inr also ↦ fresh_join_lowers core new n line a c also.0 also.1 lt below inside is also.2 k
          ])
    ]

head_parts : (core : Core) (n line : ℕ) (f : Option ℕ) (c : Stamped) → IsReached core → Quiet core line → n < core.size.nodes → line < core.size.lines
    → state_at core line n ≡ Head f c → head_of (home_at core line) ≡ Some n → Lowers core n line (parting (Head f c))
head_parts core n line None c reached q lt inside is first =
    let gone = home_gone core line n q first (ap is_fresh is) in
    lowers_so core n line kind.Wback (Head None c) (record { to = None; request = body.Wback c; next = Returning c }) reached lt inside is refl refl
    (λ new k. wback_lowers core new n line c lt inside is gone k)
head_parts core n line (Some m) c reached q lt inside is first =
    let next = next_below core line n m q (ap role_of is) (ap link_of is) in
    let names = ((reached_well core reached).each_part n lt).states line in
    let below : m < core.size.nodes = subst (NamesNodes core.size.nodes) is names in
    lowers_so core n line kind.Purge (Head (Some m) c) (record { to = Some m; request = body.Purge; next = Purging m c }) reached lt inside is refl refl
    (λ new k. purge_lowers core new n line m c next.0 next.1 next.2 lt below inside is next.3 k)

fresh_parts : (core : Core) (n line : ℕ) (f : Option ℕ) (c : Stamped) → IsReached core → Quiet core line → n < core.size.nodes → line < core.size.lines
    → state_at core line n ≡ FreshHead f c → head_of (home_at core line) ≡ Some n → Lowers core n line (parting (FreshHead f c))
fresh_parts core n line None c reached q lt inside is first =
    let fresh = home_fresh core line n q first (ap is_fresh is) in
    lowers_so core n line kind.Clear (FreshHead None c) (record { to = None; request = body.Clear; next = Clearing c }) reached lt inside is refl refl
    (λ new k. clear_lowers core new n line c fresh.0 lt inside is fresh.1 k)
fresh_parts core n line (Some m) c reached q lt inside is first =
    let fresh = home_fresh core line n q first (ap is_fresh is) in
    lowers_so core n line kind.Claim (FreshHead (Some m) c) (record { to = None; request = body.Claim; next = Claiming (Some m) c }) reached lt inside is refl
    refl (λ new k. claim_lowers core new n line (Some m) c fresh.0 lt inside is fresh.1 k)

parts_lower : (core : Core) (n line : ℕ) → IsReached core → Quiet core line → n < core.size.nodes → line < core.size.lines
    → is_head (state_at core line n) ≡ true → ((m : ℕ) → m < core.size.nodes → joins_before (state_at core line m) n ≡ false)
    → Lowers core n line (parting (state_at core line n))
parts_lower core n line reached q lt inside head none =
    let first = head_first core line n reached q head none in
    elim (one_of (state_at core line n) head) [
      | inl stale ↦ subst (λ (s : CacheState). Lowers core n line (parting s)) (sym stale.2)
          (head_parts core n line stale.0 stale.1 reached q lt inside stale.2 first)
      | inr fresh ↦ subst (λ (s : CacheState). Lowers core n line (parting s)) (sym fresh.2)
          (fresh_parts core n line fresh.0 fresh.1 reached q lt inside fresh.2 first)
    ]

pub next_lowers : (core : Core) (n line : ℕ) (ask : AskKind) → IsReached core → IsDrained core → n < core.size.nodes → line < core.size.lines
    → IsNext core line n ask → Lowers core n line ask
next_lowers core n line ask reached drained lt inside (Tells telling is) =
    subst (Lowers core n line) (sym is) (tells_lower core n line reached (quiet core line reached drained inside) lt inside telling)
next_lowers core n line ask reached drained lt inside (Joins a head joins is) =
    subst (Lowers core n line) (sym is) (joins_lower core n line a reached (quiet core line reached drained inside) lt inside head joins)
next_lowers core n line ask reached drained lt inside (Parts head none is) =
    subst (Lowers core n line) (sym is) (parts_lower core n line reached (quiet core line reached drained inside) lt inside head none)
