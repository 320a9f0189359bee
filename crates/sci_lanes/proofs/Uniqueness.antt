-- Words and views show one state.
use Rattle.std.proofs.Common.{◌≡◌, ℕ, suc, ◌+◌, ◌*◌, ◌/◌, ◌<◌, List, [], ◌∷◌, length, map, Some, refl, sym, ap, subst, ◌∙◌, arith}
use Rattle.std.proofs.{Math.Nat.{mod-lt}, lemmas.List.{ext_get_or}}
use Rattle.std.specs.Prelude.{slice_get}
use Rattle.sci_packets.specs.declared.packet.Packet.{Packet}
use Rattle.sci_packets.proofs.Whole.{one_by_words}
use Rattle.sci_cache.specs.Cache.{letter_of}
use Rattle.sci_core.specs.{Node.{no_node}, Core.{node_at, lane_at}, Reached.{IsReached}}
use Rattle.sci_core.proofs.WellFormed.WellFormedSteps.{reached_well}
use Rattle.sci_lanes.specs.declared.view.{Outbound.{Outbound}, Inbound.{Inbound}, Part.{Part}, View.{View}}
use Rattle.sci_lanes.specs.Cells.{lane_count, sender_of, receiver_of, word_at}
use Rattle.sci_lanes.specs.Shown.{Fits, Whole, nodes_of, me_of, IsKnown, Shows}
use Rattle.sci_lanes.proofs.{Keeping.{all_at}, Events.{count_is}}

-- ---- packets

one_packet : (words : List ℕ) (lane k : ℕ) (ps qs : List Packet) (o u : Outbound) (i j : Inbound) (p q : Packet) → Fits words lane ps o i
    → Fits words lane qs u j → i.taken ≡ j.taken → slice_get ps k ≡ Some p → slice_get qs k ≡ Some q → p ≡ q
one_packet words lane k ps qs o u i j p q f g taken at there =
    one_by_words p q (f.good k p at) (g.good k q there)
    (λ n a b. sym (f.full k n p at a) ∙ (ap (λ (t : ℕ). word_at words lane (t + k) n) taken ∙ g.full k n q there b))

same_packets : (ps qs : List Packet) → length ps ≡ length qs → ((k : ℕ) (p q : Packet) → slice_get ps k ≡ Some p → slice_get qs k ≡ Some q → p ≡ q) → ps ≡ qs
same_packets [] [] e each = refl
same_packets [] (q ∷ qs) e each = absurd (omega arith)
same_packets (p ∷ ps) [] e each = absurd (omega arith)
same_packets (p ∷ ps) (q ∷ qs) e each = λ i. each 0 p q refl refl i ∷ same_packets ps qs (omega arith) (λ k a b. each (suc k) a b) i

-- ---- one state

module _ (x y : Whole) (words : List ℕ) (views : List View) (rx : IsReached x.core) (ry : IsReached y.core) (sizes : x.core.size ≡ y.core.size)
    (s : Shows x words views) (t : Shows y words views) where
  n : ℕ
  n = nodes_of x

  same_n : nodes_of x ≡ nodes_of y
  same_n = ap (λ z. z.nodes) sizes

  -- a part that both know
  record Both (m : ℕ) : Type 0 where
    part : Part
    me : me_of part ≡ m
    there : IsKnown x (x.owner m) part
    here : IsKnown y (x.owner m) part

  both : (m : ℕ) → m < nodes_of x → Both m
  both m lt =
      let c = s.covered m lt in
      record {
        part = c.part;
        me = c.of_node;
        there = all_at (IsKnown x (x.owner m)) c.view.parts c.place c.part c.there (s.known (x.owner m) c.view c.seated);
        here = all_at (IsKnown y (x.owner m)) c.view.parts c.place c.part c.there (t.known (x.owner m) c.view c.seated);
      }

  one_node : (m : ℕ) → m < nodes_of x → node_at x.core m ≡ node_at y.core m
  one_node m lt =
      let b = both m lt in
      subst (λ (k : ℕ). node_at x.core k ≡ node_at y.core k) b.me (b.there.node ∙ sym b.here.node)

  one_outbound : (lane : ℕ) → lane < lane_count (nodes_of x) → x.outbound lane ≡ y.outbound lane
  one_outbound lane lt =
      let some_node = (reached_well x.core rx).sizes.some_node in
      let b = both (sender_of (nodes_of x) lane) (mod-lt (lane / nodes_of x) (omega arith)) in
      sym (b.there.outbound lane lt (sym b.me))
      ∙ b.here.outbound lane (subst (λ (k : ℕ). lane < lane_count k) same_n lt) (subst (λ (k : ℕ). sender_of k lane ≡ me_of b.part) same_n (sym b.me))

  one_inbound : (lane : ℕ) → lane < lane_count (nodes_of x) → x.inbound lane ≡ y.inbound lane
  one_inbound lane lt =
      let some_node = (reached_well x.core rx).sizes.some_node in
      let b = both (receiver_of (nodes_of x) lane) (mod-lt lane (omega arith)) in
      sym (b.there.inbound lane lt (sym b.me))
      ∙ b.here.inbound lane (subst (λ (k : ℕ). lane < lane_count k) same_n lt) (subst (λ (k : ℕ). receiver_of k lane ≡ me_of b.part) same_n (sym b.me))

  one_lane : (lane : ℕ) → lane < lane_count (nodes_of x) → lane_at x.core lane ≡ lane_at y.core lane
  one_lane lane lt =
      let a = s.lanes lane lt in
      let b = t.lanes lane (subst (λ (k : ℕ). lane < lane_count k) same_n lt) in
      let sent = ap (λ (o : Outbound). o.sent) (one_outbound lane lt) in
      let taken = ap (λ (i : Inbound). i.taken) (one_inbound lane lt) in
      let counted = a.fits.counted in
      let counted' = b.fits.counted in
      let packets = same_packets a.packets b.packets (omega arith)
      (λ k p q at there. one_packet words lane k a.packets b.packets (x.outbound lane) (y.outbound lane) (x.inbound lane) (y.inbound lane) p q a.fits b.fits
      taken at there) in
      sym a.letters ∙ (ap (λ (ps : List Packet). map letter_of ps) packets ∙ b.letters)

  pub one_state : x.core ≡ y.core
  one_state =
      let wx = (reached_well x.core rx).sizes in
      let wy = (reached_well y.core ry).sizes in
      let parts_long : length x.core.parts ≡ length y.core.parts = wx.parts_long ∙ (same_n ∙ sym wy.parts_long) in
      let lanes_long : length x.core.lanes ≡ length y.core.lanes = wx.lanes_long ∙ (ap (λ (k : ℕ). 2 * k * k) same_n ∙ sym wy.lanes_long) in
      let parts : x.core.parts ≡ y.core.parts =
      ext_get_or no_node x.core.parts y.core.parts parts_long (λ m lt. one_node m (subst (λ (k : ℕ). m < k) wx.parts_long lt)) in
      let lanes : x.core.lanes ≡ y.core.lanes =
      ext_get_or [] x.core.lanes y.core.lanes lanes_long (λ l lt. one_lane l (subst (λ (k : ℕ). l < k) (wx.lanes_long ∙ count_is (nodes_of x)) lt)) in
      λ i. record { size = sizes i; parts = parts i; lanes = lanes i }
