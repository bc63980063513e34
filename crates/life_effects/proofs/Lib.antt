pub mod FitLaws
pub mod EffectLaws
pub mod EndLaws
pub mod TransLaws
pub mod OpenAloneLaws
pub mod RenumberLaws
