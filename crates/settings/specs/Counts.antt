-- How many words the settings of a version are, which the trait of src/stored.rt asks of each.
use Rattle.std.specs.Prelude.{◌≡◌, length, refl}
use Rattle.settings.specs.declared.SettingsV1.{SettingsV1}
use Rattle.settings.specs.declared.Settings.{Settings}
use Rattle.settings.specs.Settings.{parts_v1, parts, words_v1, words}

pub six_words : (s : SettingsV1) → length (words_v1 s) ≡ parts_v1
unfolding words_v1
six_words s = refl

pub seven_words : (s : Settings) → length (words s) ≡ parts
unfolding words words_v1
seven_words s = refl
