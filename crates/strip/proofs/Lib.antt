pub mod AnswerLaws
pub mod Examples
pub mod FilterLaws
pub mod JoinedLaws
pub mod PassLaws
pub mod StripClaims
