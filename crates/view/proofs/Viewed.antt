-- The view of sound records: who lives, from which place each row is read, and how many places and snapshots that makes. Assumes nothing.
use Rattle.std.specs.Prelude.{◌≡◌, ◌↔◌, true, ◌&&◌, length}
use Rattle.std.proofs.Math.Path.{refl, ap}
use Rattle.std.proofs.Common.{sym, ◌∙◌, subst, inl, inr, arith}
use mathlib.Core.Logic.Iff
use Rattle.std.proofs.Math.Logic.{by_cases}
use Rattle.std.proofs.Math.Bool.{and-true}
use mathlib.Core.List.{List}
use Prim.Native.Nat.{ℕ, pred, ◌+◌, ◌<◌}
use Rattle.std.proofs.Math.Decide.{ℕ_discrete}
use Rattle.basics.specs.Decide.{Decides, decides_iff, at}
use Rattle.basics.proofs.CountLaws.{count_cong}
use Rattle.records.specs.Records.{Records, table, lives}
use Rattle.trees.specs.Trees.{InUse, Alive, is_snapshot, snapshots, used}
use Rattle.trees.specs.Reading.{place}
use Rattle.records.specs.Sound.{Sound}
use Rattle.tree.specs.Nodes.{snapshot_yes, snapshot_of}
use Rattle.reading.specs.Reads.{place_root, place_reads}
use Rattle.reading.specs.Used.{PlaceRead, used_read, place_low}
use Rattle.edits.proofs.Solve.{version_node, lives_node, version_lives, tag_place_lem, origin_version}
use Rattle.copies.specs.Copies.{Cell, different, living, alive, snapshots_alive, places_used, Live}
use Rattle.copies.specs.Members.{In, test_iff, only_all}
use Rattle.copies.specs.Living.{alive_in}
use Rattle.copies.specs.Counting.{used_among}
use Rattle.view.specs.View.{tags_below, view}
use Rattle.view.proofs.Tags.{different_new, tags_of, tags_in, tags_passing, tags_above}
use Rattle.view.proofs.Places.{row_of_place, reads_row, place_in_use, in_use_decides, count_in_use}

module _ (z : Records) (s : Sound z) (places : List ℕ) where
  -- Who lives

  pub view_alive : (u : ℕ) → alive (view z places).tags u ≡ lives z u
  unfolding view
  view_alive u = test_iff (λ e. to ((alive_in tags u).0 e), λ e. (alive_in tags u).1 (from e))
    where
      tags : List ℕ
      tags = tags_below z.tree 128

      to : In u (living tags) → lives z u ≡ true
      to (inl e) = rw e (version_lives z 0 0 (origin_version z s))
      to (inr i) =
          let (k, l, x, e) = tags_of z.tree 128 u i in
          version_lives z u k (version_node z.tree s.states s.tagged k u (snapshot_of z.tree k l x).1 e)

      node : (n : ℕ) → Alive z.tree n → In (at z.tree.tag n) (living tags)
      node n a = by_cases (ℕ_discrete n 0)
          (λ h. inl (ap (at z.tree.tag) h ∙ s.states.root.1))
          (λ h. inr (tags_in z.tree 128 n a.0 (snapshot_yes z.tree n (h, a))))

      from : lives z u ≡ true → In u (living tags)
      from e = let (n, v, a, g) = lives_node z u e in subst (λ y. In y (living tags)) g (node n a)

  pub view_snapshots : snapshots_alive (view z places).tags ≡ snapshots z.tree
  unfolding view snapshots_alive snapshots
  view_snapshots =
      let tags = tags_below z.tree 128 in
      ap pred (different_new (λ u. u) 0 tags (tags_above z.tree s.tagged))
      ∙ ap (different (λ u. u)) (sym (only_all tags))
      ∙ tags_passing z.tree s.tagged (λ u. true) 128 (omega arith)
      ∙ count_cong (λ k. is_snapshot z.tree k && true) (is_snapshot z.tree) 128 (λ k l. and-true (is_snapshot z.tree k))

  -- From which place a row is read: as the node of its version reads it

  node_used : (n : ℕ) → Alive z.tree n → InUse z.tree n
  node_used n a = (a.0, omega (arith, a.1))

  live_node : (c : Cell) → Live z.size.rows (view z places).tags c → (n : ℕ) × Alive z.tree n × ((view z places).place c ≡ place z.tree (table z) n c.1)
  unfolding view
  live_node c l =
      let (n, v, a, g) = lives_node z c.0 (sym (view_alive c.0) ∙ l.0) in
      (n, a, tag_place_lem z c.0 n c.1 v)

  node_live : (n r : ℕ) → Alive z.tree n → r < z.size.rows
      → (c : Cell) × Live z.size.rows (view z places).tags c × ((view z places).place c ≡ place z.tree (table z) n r)
  unfolding view
  node_live n r a l =
      let u = at z.tree.tag n in
      let v = version_node z.tree s.states s.tagged n u a refl in
      ((u, r), (view_alive u ∙ version_lives z u n v, l), tag_place_lem z u n r v)

  pub view_low : (c : Cell) → Live z.size.rows (view z places).tags c → (view z places).place c < z.size.places
  view_low c l =
      let (n, a, e) = live_node c l in
      rw e (place_low z s n c.1 (node_used n a) l.1)

  -- the place tells the row
  place_row : (c : Cell) → Live z.size.rows (view z places).tags c → row_of_place (table z) ((view z places).place c) ≡ c.1
  place_row c l =
      let (n, a, e) = live_node c l in
      rw e (reads_row z.tree (table z) l.1 (place_reads z.tree s.linked (table z) n c.1 (node_used n a)))

  pub view_rows : (a b : Cell) → Live z.size.rows (view z places).tags a → Live z.size.rows (view z places).tags b → (view z places).place a ≡ (view z places).place b → a.1 ≡ b.1
  view_rows a b l k e = sym (place_row a l) ∙ ap (row_of_place (table z)) e ∙ place_row b k

  pub view_home : (r : ℕ) → (view z places).place (0, r) ≡ r
  unfolding view
  view_home r = tag_place_lem z 0 0 r (origin_version z s) ∙ place_root z.tree s.linked (table z) r

  -- Places in use: a place is read by the node of a living version exactly if a living row is read from it

  read_live : (v : ℕ) → PlaceRead z.tree (table z) v ↔ ((c : Cell) × Live z.size.rows (view z places).tags c × ((view z places).place c ≡ v))
  read_live v = (
    λ h. let (n, r, a, l, e) = h in let (c, k, p) = node_live n r a l in (c, k, p ∙ e),
    λ h. let (c, l, e) = h in let (n, a, p) = live_node c l in (n, c.1, a, l.1, sym p ∙ e),
  )

  all_places : z.size.places ≡ z.size.rows + length z.node
  all_places = omega (arith, s.measured.nodes, s.measured.within.places.0)

  live_decides : (v : ℕ) → v < z.size.places
      → Decides (place_in_use (table z) v) ((c : Cell) × Live z.size.rows (view z places).tags c × ((view z places).place c ≡ v))
  live_decides v l = decides_iff (place_in_use (table z) v) (Iff.trans (used_read z s v) (read_live v)) (in_use_decides (table z) v (omega (arith, all_places)))

  pub view_used : places_used z.size.rows (view z places).tags (view z places).place ≡ used (table z)
  view_used =
      used_among z.size.rows z.size.places (view z places).tags (view z places).place view_low (place_in_use (table z)) live_decides
      ∙ rw all_places (count_in_use (table z))
