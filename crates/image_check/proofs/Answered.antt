-- The answers of the check of each version, in their order, from what its tests found.
use Rattle.std.proofs.Common.{◌≡◌, ap, true, false, not, ◌≢◌, length, eq-eqb, ne_eqb}
use Rattle.format.specs.Layout.{Version, expense_count, image_size_in}
use Rattle.format.specs.Bytes.{Bytes}
use Rattle.rules.specs.Tests.{every_below}
use Rattle.rules.specs.Sound.{rules_fit}
use Rattle.images.specs.Image.{decode_in, mark_ok, version_ok_in, header_ok, sound_part_in, image_check_in}
use Rattle.rules.proofs.Answers.{first_yes, first_no, first_none}

module _ (v : Version) (b : Bytes) where
  pub unsized : length b ≢ image_size_in v → 1 ≡ image_check_in v b
  unfolding image_check_in
  unsized n = first_yes _ _ _ (ap not (ne_eqb _ _ n))

  module _ (sized : length b ≡ image_size_in v) where
    pub unmarked : mark_ok b ≡ false → 2 ≡ image_check_in v b
    unfolding image_check_in
    unmarked f = first_no _ _ _ _ (ap not (eq-eqb _ _ sized)) (first_yes _ _ _ (ap not f))

    module _ (marked : mark_ok b ≡ true) where
      pub unversioned : version_ok_in v b ≡ false → 3 ≡ image_check_in v b
      unfolding image_check_in
      unversioned f = first_no _ _ _ _ (ap not (eq-eqb _ _ sized)) (first_no _ _ _ _ (ap not marked) (first_yes _ _ _ (ap not f)))

      module _ (versioned : version_ok_in v b ≡ true) where
        pub unheaded : header_ok b ≡ false → 4 ≡ image_check_in v b
        unfolding image_check_in
        unheaded f = first_no _ _ _ _ (ap not (eq-eqb _ _ sized)) (first_no _ _ _ _ (ap not marked) (first_no _ _ _ _ (ap not versioned) (first_yes _ _ _ (ap not f))))

        module _ (headed : header_ok b ≡ true) where
          pub unruled : rules_fit (decode_in v b) ≡ false → 4 ≡ image_check_in v b
          unfolding image_check_in
          unruled f =
              first_no _ _ _ _ (ap not (eq-eqb _ _ sized))
              (first_no _ _ _ _ (ap not marked) (first_no _ _ _ _ (ap not versioned) (first_no _ _ _ _ (ap not headed) (first_yes _ _ _ (ap not f)))))

          module _ (ruled : rules_fit (decode_in v b) ≡ true) where
            pub unsound : every_below expense_count (sound_part_in v b) ≡ false → 5 ≡ image_check_in v b
            unfolding image_check_in
            unsound f =
                first_no _ _ _ _ (ap not (eq-eqb _ _ sized))
                (first_no _ _ _ _ (ap not marked) (first_no _ _ _ _ (ap not versioned) (first_no _ _ _ _ (ap not headed) (first_no _ _ _ _ (ap not ruled) (first_yes _ _ _ (ap not f))))))

            pub passing : every_below expense_count (sound_part_in v b) ≡ true → 0 ≡ image_check_in v b
            unfolding image_check_in
            passing t =
                first_no _ _ _ _ (ap not (eq-eqb _ _ sized))
                (first_no _ _ _ _ (ap not marked) (first_no _ _ _ _ (ap not versioned) (first_no _ _ _ _ (ap not headed) (first_no _ _ _ _ (ap not ruled) (first_no _ _ _ _ (ap not t) first_none)))))
