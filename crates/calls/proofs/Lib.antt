pub mod AnswerLaws
pub mod CallLaws
pub mod HistoryLaws
pub mod PassedLaws
pub mod QuestionLaws
pub mod WorldLaws
